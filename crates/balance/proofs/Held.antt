-- One packet at the line of its id: a line that holds as many bytes as its link says goes on doing so, and the bytes of the unit that the packet
-- completes and those that it drops are as many as the link's numbers say. Assumes nothing.
use Prim.Native.Nat.{ℕ, ◌+◌}
use mathlib.Core.Path.{◌≡◌, refl, sym, ap, ap₂, ◌∙◌}
use mathlib.Core.List.{[], ◌∷◌, map}
use mathlib.Core.Bool.{Bool, true, false, not, ◌&&◌, ◌||◌}
use lib.Dec.{leb, eqb}
use lib.ListN.{length, length-append}
use Rattle.laws.specs.Pick.{pick}
use Rattle.laws.proofs.Flags.{and_l, and_r}
use Rattle.packet.specs.Packet.{Chunk}
use Rattle.receiver.specs.declared.Link.{Link}
use Rattle.receiver.specs.Link.{kept, null_of, base_of, joins, adds, completes, delivered, added, dropped, skipped, fate_of, link_with, link_after}
use Rattle.receiver.specs.Receiver.{answer_by}
use Rattle.receiver.specs.Bytes.{open_of, dropped_by, gone_of, dropped_bytes, skipped_bytes}
use Rattle.receiver.specs.Line.{Line, grown, line_after, units_by}
use Rattle.receiver.proofs.Balance.{skipping}
use Rattle.balance.specs.History.{length_by, over_by, lost_by, missed_by}

abbrev pub Held : Line → Type 0
Held l = length l.bytes ≡ open_of l.link

kept_open : (l : Link) (i : ℕ) → kept l i ≡ true → open_of l ≡ l.len
unfolding kept open_of
kept_open l i e = simp (and_l l.begun (pick l.heard (eqb i l.index) true) e)

with_open : (i n : ℕ) (b : Bool) → open_of (link_with i b n) ≡ pick b n 0
unfolding open_of link_with
with_open i n true = refl
with_open i n false = refl

module _ (l : Line) (i : ℕ) (c : Chunk) (h : Held l) where
  abbrev n : ℕ
  n = length c.body

  abbrev m : ℕ
  m = base_of l.link c.first + n

  -- where the packet belongs to a unit, the unit has the bytes that the link's number says
  joined_length : joins l.link i c.first c.last n ≡ true → length (grown l c) ≡ m
  unfolding grown base_of joins
  joined_length e =
      length-append (pick c.first [] l.bytes) c.body
      ∙ ap (λ (x : ℕ). x + n) (go c.first (and_r (not (null_of c.first c.last n)) (pick c.first true (kept l.link i)) e))
    where
      go : (f : Bool) → pick f true (kept l.link i) ≡ true → length (pick f [] l.bytes) ≡ pick f 0 l.link.len
      go true k = refl
      go false k = h ∙ kept_open l.link i k

  grown_length : adds l.link i c.first c.last n ≡ true → length (grown l c) ≡ m
  unfolding adds
  grown_length e = joined_length (and_l (joins l.link i c.first c.last n) (leb m 4096) e)

  -- the open unit after it
  pub line_held : Held (line_after l i c)
  unfolding line_after link_after link_with
  line_held = go (null_of c.first c.last n)
    where
      a : Bool
      a = adds l.link i c.first c.last n && not c.last

      null : (b : Bool) → kept l.link i ≡ b → length (pick b l.bytes []) ≡ pick b l.link.len 0
      null true e = h ∙ kept_open l.link i e
      null false e = refl

      more : (b : Bool) → a ≡ b → length (pick b (grown l c) []) ≡ pick b m 0
      more true e = grown_length (and_l (adds l.link i c.first c.last n) (not c.last) e)
      more false e = refl

      go : (z : Bool)
          → length (pick (pick z (link_with i (kept l.link i) l.link.len) (link_with i a m)).begun (pick z l.bytes (grown l c)) [])
          ≡ open_of (pick z (link_with i (kept l.link i) l.link.len) (link_with i a m))
      go true = null (kept l.link i) refl ∙ sym (with_open i l.link.len (kept l.link i))
      go false = more a refl ∙ sym (with_open i m a)

  -- the unit that it completes has the length that the answer gives
  pub units_length : (ids : ℕ → Bool) (id : ℕ) → ids id ≡ true → map length (units_by l i c) ≡ length_by ids (answer_by (fate_of l.link i c.first c.last n) id m)
  unfolding units_by fate_of completes length_by answer_by
  units_length ids id w = go (adds l.link i c.first c.last n) refl c.last (joins l.link i c.first c.last n)
    where
      go : (a : Bool) → adds l.link i c.first c.last n ≡ a → (t j : Bool)
          → map length (pick (a && t) (grown l c ∷ []) []) ≡ length_by ids (answer_by (pick (a && t) delivered (pick a added (pick j dropped skipped))) id m)
      go true e true j = simp w (ap (λ (x : ℕ). x ∷ []) (grown_length e))
      go true e false j = refl
      go false e t true = refl
      go false e t false = refl

  -- the bytes that it drops are as many as E5 counts
  pub lost_length : length (lost_by l i c) ≡ dropped_bytes l.link i c.first c.last n
  unfolding lost_by over_by dropped_bytes gone_of dropped_by fate_of completes adds
  lost_length =
      length-append (pick g [] l.bytes) (over_by (fate_of l.link i c.first c.last n) (grown l c))
      ∙ ap₂ (λ (x y : ℕ). x + y) (gone g) (over (joins l.link i c.first c.last n) refl _ c.last)
    where
      g : Bool
      g = kept l.link i && pick (null_of c.first c.last n) true (not c.first)

      gone : (b : Bool) → length (pick b [] l.bytes) ≡ pick b 0 (open_of l.link)
      gone true = refl
      gone false = h

      over : (j : Bool) → joins l.link i c.first c.last n ≡ j → (v t : Bool)
          → length (over_by (pick ((j && v) && t) delivered (pick (j && v) added (pick j dropped skipped))) (grown l c))
          ≡ dropped_by (pick ((j && v) && t) delivered (pick (j && v) added (pick j dropped skipped))) m
      over true e true true = refl
      over true e true false = refl
      over true e false t = joined_length e
      over false e v t = refl

-- the bytes of a packet that is skipped
pub missed_length : (l : Line) (i : ℕ) (c : Chunk) → length (missed_by l i c) ≡ skipped_bytes l.link i c.first c.last (length c.body)
unfolding missed_by
missed_length l i c =
    go (null_of c.first c.last (length c.body) || c.first || kept l.link i) ∙ sym (skipping l.link i c.first c.last (length c.body))
  where
    go : (b : Bool) → length (pick b [] c.body) ≡ pick b 0 (length c.body)
    go true = refl
    go false = refl
