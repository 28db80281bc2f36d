-- The packets of an id, put together step by step, bring its line to where the record stands: the units, the lost and the open bytes are as many
-- as answers, reports and record say. Assumes nothing.
use Prim.Native.Nat.{ℕ, ◌+◌, ◌<◌}
use mathlib.Core.Path.{◌≡◌, refl, sym, ap, ap₂, ◌∙◌, subst}
use mathlib.Core.List.{List, [], ◌∷◌, ◌++◌, map, append-nil}
use mathlib.Core.Bool.{Bool, true, false, ◌&&◌}
use native.Mathlib.Omega.{arith}
use borrow.Author.Tests.{eqb-true, eqb-false}
use lib.Dec.{eqb}
use lib.ListN.{length, get_or, set, length-append}
use lib.Seq.{get_or-set_same, get_or-set_other}
use Rattle.laws.specs.Pick.{pick}
use Rattle.packet.specs.Packet.{Chunk, Packet}
use Rattle.receiver.specs.declared.Link.{Link}
use Rattle.receiver.specs.declared.Receiver.{Receiver}
use Rattle.receiver.specs.Answer.{Told, Refused}
use Rattle.receiver.specs.Link.{base_of, Fate, delivered, added, dropped, skipped, fate_of, link_after, no_link}
use Rattle.receiver.specs.Receiver.{link_of, link_in, fate_in, base_in, fresh, answer_by, answer_in, taken_in}
use Rattle.receiver.specs.Bytes.{open_of, dropped_bytes, skipped_bytes}
use Rattle.receiver.specs.Dropped.{dropped_in, told_in, told_for}
use Rattle.receiver.specs.Skipped.{skipped_in, skipped_for}
use Rattle.receiver.specs.Line.{Line, idle, line_after, units_by, line_through, units_through}
use Rattle.receiver.specs.Run.{Input, after_all}
use Rattle.receiver.proofs.Lines.{through_append, units_append}
use Rattle.receiver.proofs.Sound.{id_in, fresh_fine, fresh_links}
use Rattle.balance.specs.History.{says_at, accepted_at, told_at, taken_at, length_by, dropped_at, skipped_at, sum_of, gather_of, taken_of, unit_lengths, lost_by, missed_by, bytes_through, units_in, lost_in, open_in, missed_in}
use Rattle.balance.proofs.Steps.{step_taken, step_refused}
use Rattle.balance.proofs.Sums.{none, four_still}
use Rattle.balance.proofs.Held.{Held, line_held, units_length, lost_length, missed_length}

-- the line is where the record has id, with as many bytes
record Stands (id : ℕ) (r : Receiver) (l : Line) : Type 0 where
  link : l.link ≡ link_of r id
  held : Held l

-- the packets ks of id bring its line to where a step leaves the record, complete the unit in its answer, drop what it reports (d: of id), and of
-- them is skipped what it skips (m)
record Went (id : ℕ) (t : Told) (d m : ℕ) (l : Line) (ks : List Packet) : Type 0 where
  stands : Stands id t.next (line_through l ks)
  units : map length (units_through l ks) ≡ length_by (eqb id) t.answer
  lost : length (bytes_through lost_by l ks) ≡ d
  missed : length (bytes_through missed_by l ks) ≡ m

-- ---- a step
other_length : (ids : ℕ → Bool) (f : Fate) (id n : ℕ) → ids id ≡ false → length_by ids (answer_by f id n) ≡ []
unfolding length_by answer_by
other_length ids delivered id n e = simp e
other_length ids added id n e = refl
other_length ids dropped id n e = refl
other_length ids skipped id n e = refl

module _ (id : ℕ) (r : Receiver) (k : Packet) (l : Line) (four : length r.link ≡ 4) (low : k.id < 4) (o : Stands id r l) where
  own_went : eqb id k.id ≡ true → Went id (told_in r k) (told_in r k).dropped (skipped_in r k) l (k ∷ [])
  unfolding told_in taken_in answer_in dropped_in skipped_in line_through units_through bytes_through line_after
  own_went e =
      let same : id ≡ k.id = eqb-true id k.id e in
      let lk : l.link ≡ link_of r k.id = o.link ∙ ap (link_of r) same in
      let n = length k.chunk.body in
      let here : get_or (set r.link k.id (link_in r k)) id no_link ≡ link_in r k =
      ap (λ (j : ℕ). get_or (set r.link k.id (link_in r k)) j no_link) same ∙ get_or-set_same r.link k.id (link_in r k) no_link (omega (arith, four, low)) in
      record {
        stands =
            record {
              link = ap (λ (x : Link). link_after x k.index k.chunk.first k.chunk.last n) lk ∙ sym here;
              held = line_held l k.index k.chunk o.held;
            };
        units =
            ap (map length) (append-nil (units_by l k.index k.chunk))
            ∙ units_length l k.index k.chunk o.held (eqb id) k.id e
            ∙ ap (λ (x : Link). length_by (eqb id) (answer_by (fate_of x k.index k.chunk.first k.chunk.last n) k.id (base_of x k.chunk.first + n))) lk;
        lost =
            ap length (append-nil (lost_by l k.index k.chunk))
            ∙ lost_length l k.index k.chunk o.held
            ∙ ap (λ (x : Link). dropped_bytes x k.index k.chunk.first k.chunk.last n) lk;
        missed =
            ap length (append-nil (missed_by l k.index k.chunk))
            ∙ missed_length l k.index k.chunk
            ∙ ap (λ (x : Link). skipped_bytes x k.index k.chunk.first k.chunk.last n) lk;
      }

  other_went : eqb id k.id ≡ false → Went id (told_in r k) 0 0 l []
  unfolding told_in taken_in answer_in line_through units_through bytes_through
  other_went e =
      record {
        stands = record { link = o.link ∙ sym (get_or-set_other r.link k.id id (link_in r k) no_link (eqb-false id k.id e)); held = o.held };
        units = sym (other_length (eqb id) (fate_in r k) k.id (base_in r k + length k.chunk.body) e);
        lost = refl;
        missed = refl;
      }

refused_went : (id : ℕ) (r : Receiver) (n : ℕ) (l : Line) → Stands id r l → Went id (record { answer = Refused n; dropped = 0; next = r }) 0 0 l []
unfolding line_through units_through bytes_through length_by
refused_went id r n l o = record { stands = o; units = refl; lost = refl; missed = refl }

step_went : (id : ℕ) (r : Receiver) (g : Input) (l : Line) → length r.link ≡ 4 → Stands id r l
    → Went id (told_at r g) (dropped_at (eqb id) r g) (skipped_at (eqb id) r g) l (taken_at id r g)
unfolding taken_at dropped_at skipped_at skipped_for
step_went id r g l four o = go (accepted_at r g) refl (eqb id (says_at g).id) refl
  where
    go : (b : Bool) → accepted_at r g ≡ b → (c : Bool) → eqb id (says_at g).id ≡ c
        → Went id (told_at r g) (pick c (told_at r g).dropped 0) (pick c (pick b (skipped_in r (says_at g)) 0) 0) l (pick (b && c) (says_at g ∷ []) [])
    go true e true f = rw (step_taken r g e) (own_went id r (says_at g) l four (id_in g.p g.packet) o f)
    go true e false f = rw (step_taken r g e) (other_went id r (says_at g) l four (id_in g.p g.packet) o f)
    go false e c f = rw (step_refused r g e, none c) (refused_went id r _ l o)

-- ---- a history
map_append : (us vs : List (List ℕ)) → map length (us ++ vs) ≡ map length us ++ map length vs
map_append [] vs = refl
map_append (u ∷ us) vs = ap (λ (ns : List ℕ). length u ∷ ns) (map_append us vs)

bytes_append : (f : Line → ℕ → Chunk → List ℕ) (l : Line) (ks js : List Packet)
    → length (bytes_through f l (ks ++ js)) ≡ length (bytes_through f l ks) + length (bytes_through f (line_through l ks) js)
unfolding bytes_through line_through
bytes_append f l [] js = omega arith
bytes_append f l (k ∷ ks) js =
    let m = line_after l k.index k.chunk in
    let b = f l k.index k.chunk in
    omega (arith, length-append b (bytes_through f m (ks ++ js)), length-append b (bytes_through f m ks), bytes_append f m ks js)

record Gathered (id : ℕ) (gs : List Input) (r : Receiver) (l : Line) : Type 0 where
  stands : Stands id (after_all gs r) (line_through l (taken_of id gs r))
  units : map length (units_through l (taken_of id gs r)) ≡ unit_lengths id gs r
  lost : length (bytes_through lost_by l (taken_of id gs r)) ≡ sum_of (dropped_at (eqb id)) gs r
  missed : length (bytes_through missed_by l (taken_of id gs r)) ≡ sum_of (skipped_at (eqb id)) gs r

gathered : (id : ℕ) (gs : List Input) (r : Receiver) (l : Line) → length r.link ≡ 4 → Stands id r l → Gathered id gs r l
unfolding after_all gather_of sum_of line_through units_through bytes_through told_for
gathered id [] r l four o = record { stands = o; units = refl; lost = refl; missed = refl }
gathered id (g ∷ gs) r l four o =
    let ks = taken_at id r g in
    let js = taken_of id gs (told_at r g).next in
    let w = step_went id r g l four o in
    let more = gathered id gs (told_at r g).next (line_through l ks) (four_still r g four) w.stands in
    record {
      stands = subst (Stands id (after_all gs (told_at r g).next)) (sym (through_append l ks js)) more.stands;
      units =
          ap (map length) (units_append l ks js)
          ∙ map_append (units_through l ks) (units_through (line_through l ks) js)
          ∙ ap₂ (λ (x y : List ℕ). x ++ y) w.units more.units;
      lost = bytes_append lost_by l ks js ∙ ap₂ (λ (x y : ℕ). x + y) w.lost more.lost;
      missed = bytes_append missed_by l ks js ∙ ap₂ (λ (x y : ℕ). x + y) w.missed more.missed;
    }

-- ---- from a fresh record
module _ (id : ℕ) (gs : List Input) where
  fresh_gathered : Gathered id gs fresh idle
  unfolding open_of
  fresh_gathered = gathered id gs fresh idle fresh_fine.four (record { link = sym (fresh_links id); held = refl })

  pub units_are : map length (units_in (taken_of id gs fresh)) ≡ unit_lengths id gs fresh
  units_are = fresh_gathered.units

  pub lost_are : length (lost_in (taken_of id gs fresh)) ≡ sum_of (dropped_at (eqb id)) gs fresh
  lost_are = fresh_gathered.lost

  pub missed_are : length (missed_in (taken_of id gs fresh)) ≡ sum_of (skipped_at (eqb id)) gs fresh
  missed_are = fresh_gathered.missed

  pub open_are : length (open_in (taken_of id gs fresh)) ≡ open_of (link_of (after_all gs fresh) id)
  open_are = let s = fresh_gathered.stands in s.held ∙ ap open_of s.link
