-- Where every packet is given in order, none is refused, nothing is dropped and nothing skipped (02, E5). Assumes nothing.
use Prim.Native.Nat.{ℕ, zero, suc, ◌+◌, ◌≤◌, ◌<◌}
use mathlib.Core.Path.{◌≡◌, refl, sym, ap, ap₂, ◌∙◌, subst}
use mathlib.Core.List.{List, [], ◌∷◌, ◌++◌, append_assoc}
use mathlib.Core.Bool.{Bool, true, false, not, ◌&&◌, true≢false}
use native.Mathlib.Omega.{arith}
use borrow.Author.Tests.{eq-eqb, leb-true}
use lib.Dec.{leb, eqb}
use lib.ListN.{length, get_or, take, drop, replicate, length-append, length-take}
use lib.Seq.{take_at, drop_at}
use Rattle.laws.specs.Pick.{pick}
use Rattle.packet.specs.Packet.{Chunk, Packet, nothing, decode}
use Rattle.packet.specs.Calls.{check_for}
use Rattle.row.specs.Content.{chunk_of, rest_of, rests, begun_after, chunks}
use Rattle.receiver.specs.declared.Link.{Link}
use Rattle.receiver.specs.Link.{kept, null_of, base_of, joins, adds, completes, Fate, delivered, added, dropped, skipped, fate_of}
use Rattle.receiver.specs.Bytes.{open_of, dropped_by, skipped_by, gone_of, dropped_bytes, skipped_bytes}
use Rattle.receiver.specs.Receiver.{step_number}
use Rattle.receiver.specs.Line.{Line, idle, line_through, line_of}
use Rattle.receiver.specs.Dropped.{dropped_in, dropped_for, told_for}
use Rattle.receiver.specs.Skipped.{skipped_in, skipped_for}
use Rattle.demand.specs.Bytes.{readable, own, of_id, index_after, numbered}
use Rattle.demand.specs.Run.{Act, fresh_desk}
use Rattle.demand.specs.Log.{Event, log, Stands, accepted_of, sent_of}
use Rattle.demand.specs.Stream.{Fair, count_of, Stream}
use Rattle.demand.proofs.Packets.{of_append, numbered_length}
use Rattle.demand.proofs.Chunks.{chunks_length}
use Rattle.demand.proofs.Filler.{same_more}
use Rattle.demand.proofs.Stream.{stream}
use Rattle.demand.proofs.Reported.{reports}
use Rattle.delivery.specs.Delivered.{Ear, fresh_ear, line_at, hear_all}
use Rattle.delivery.specs.Dropped.{Kept, AllKept}
use Rattle.delivery.specs.Flow.{Linked}
use Rattle.delivery.proofs.Hear.{fresh_ok, number_is, id_in}
use Rattle.delivery.proofs.Lines.{heard}
use Rattle.delivery.proofs.Step.{Fine, kept_is, adds_is, fine_of, null_some, null_more}
use Rattle.delivery.proofs.Passing.{gone, idle_linked, packets_more}
use Rattle.delivery.proofs.Come.{fresh_line}
use Rattle.delivery.proofs.Loss.{apart}
use Rattle.delivery.proofs.Right.{AllRight, right_at, sent_right}

-- a packet with these flags and n useful bytes, at a line
pub record NoneLost (l : Link) (i : ℕ) (f t : Bool) (n : ℕ) : Type 0 where
  pub dropped : dropped_bytes l i f t n ≡ 0
  pub skipped : skipped_bytes l i f t n ≡ 0

-- ---- one whose bytes are added (a): what is counted neither where they are delivered nor where the unit stays open is 0
none_by : (count : Fate → ℕ) → count delivered ≡ 0 → count added ≡ 0 → (a t j : Bool) → a ≡ true
    → count (pick (a && t) delivered (pick a added (pick j dropped skipped))) ≡ 0
none_by count x y true true j e = x
none_by count x y true false j e = y
none_by count x y false t j e = absurd (true≢false (sym e))

-- o: a unit is open, k: it outlives the index
gone_none : (o k z b : Bool) (m : ℕ) → o ≡ b → k ≡ b → z ≡ false → pick (k && pick z true (not (not b))) 0 (pick o m 0) ≡ 0
gone_none o k z true m eo ek ez = rw (ek, ez)
gone_none o k z false m eo ek ez = rw (ek, eo)

kept_fine : (l : Line) (i : ℕ) (b t : Bool) (n : ℕ) → Fine l i b t n → kept l.link i ≡ b
unfolding kept
kept_fine l i b t n g = kept_is l.link.begun l.link.heard b l.link.index i g.index g.begun

added_none : (l : Line) (i : ℕ) (b t : Bool) (n : ℕ) → Fine l i b t n → NoneLost l.link i (not b) t n
unfolding dropped_bytes skipped_bytes dropped_by skipped_by gone_of open_of fate_of completes
added_none l i b t n g =
    let a = adds_is l i t b n g in
    let m = base_of l.link (not b) + n in
    let j = joins l.link i (not b) t n in
    record {
      dropped =
          ap₂
          (λ (x y : ℕ). x + y)
          (gone_none l.link.begun (kept l.link i) (null_of (not b) t n) b l.link.len g.begun (kept_fine l i b t n g) g.real)
          (none_by (λ (f : Fate). dropped_by f m) refl refl (adds l.link i (not b) t n) t j a);
      skipped = none_by (λ (f : Fate). skipped_by f n) refl refl (adds l.link i (not b) t n) t j a;
    }

-- ---- a null packet where no unit is open
null_none : (l : Line) (i : ℕ) → l.link.begun ≡ false → NoneLost l.link i true true 0
unfolding dropped_bytes skipped_bytes gone_of open_of fate_of completes adds joins null_of dropped_by skipped_by kept
null_none l i e = record { dropped = rw e; skipped = refl }

-- ---- the next packet of a queue that the line is in step with
next_none : (p : ℕ) (us : List (List ℕ)) (b : Bool) (i : ℕ) (l : Line) → Linked us b i l
    → NoneLost l.link i (chunk_of p b us).first (chunk_of p b us).last (length (chunk_of p b us).body)
unfolding chunk_of
next_none p [] b i l k = null_none l i (k.begun ∙ k.idle refl)
next_none p (u ∷ us) b i l k = go (leb (length u) p) refl
  where
    go : (t : Bool) → leb (length u) p ≡ t → NoneLost l.link i (not b) (leb (length u) p) (length (take p u))
    go true e =
        let h : length u ≤ p = leb-true _ _ e in
        let n = length (take p u) in
        rw e (added_none l i b true n (fine_of p u us b i l k true (null_some (not b) true n (omega (arith, length-take p u, k.some.0)))))
    go false e = rw e (added_none l i b false (length (take p u)) (fine_of p u us b i l k false (null_more (not b) (length (take p u)))))

-- ---- filler: the packets of a queue that has no unit
rests_none : (p n : ℕ) → rests p n [] ≡ []
unfolding rests rest_of
rests_none p zero = refl
rests_none p (suc n) = ap (rest_of p) (rests_none p n)

nulls : (p n : ℕ) → chunks p n false [] ≡ replicate n nothing
unfolding chunks chunk_of
nulls p zero = refl
nulls p (suc n) =
    ap₂ (λ (cs : List Chunk) (us : List (List ℕ)). cs ++ (chunk_of p (begun_after p n false []) us ∷ [])) (nulls p n) (rests_none p n) ∙ same_more n nothing

-- ---- packet x, given behind those before it
module _ (p : ℕ) (es : List Event) (buffer : List ℕ) (s : Stream p es) (hb : length buffer ≡ 16384) (before behind : List (List ℕ)) (x : List ℕ)
    (q : sent_of es ≡ before ++ (x ∷ behind)) where
  abbrev e : Ear
  e = hear_all p (fresh_ear buffer) before

  abbrev k : Packet
  k = decode p x

  module _ (h : eqb (check_for p x) 0 ≡ true) where
    -- the packets of its id carry units A
    module _ (id n : ℕ) (A : List (List ℕ)) (fair : Fair A) (u : of_id p id (sent_of es) ≡ numbered id 0 (chunks p n false A)) (own-id : id ≡ k.id) where
      abbrev xs : List Packet
      xs = of_id p id before

      abbrev P : List Packet
      P = numbered id 0 (chunks p (length xs) false A)

      abbrev r : Packet
      r = record { id = id; index = index_after (length xs) 0; chunk = chunk_of p (begun_after p (length xs) false A) (rests p (length xs) A) }

      here : of_id p id (x ∷ behind) ≡ k ∷ of_id p id behind
      unfolding readable own
      here = rw (h, eq-eqb id k.id own-id)

      whole : (xs ++ (k ∷ [])) ++ of_id p id behind ≡ numbered id 0 (chunks p n false A)
      whole =
          append_assoc xs (k ∷ []) (of_id p id behind)
          ∙ ap (λ (l : List Packet). xs ++ l) (sym here)
          ∙ sym (of_append p id before (x ∷ behind))
          ∙ ap (of_id p id) (sym q)
          ∙ u

      joined : xs ++ (k ∷ []) ≡ P ++ (r ∷ [])
      joined =
          let z : length (xs ++ (k ∷ [])) ≡ suc (length xs) = length-append xs (k ∷ []) ∙ omega arith in
          (apart p id (xs ++ (k ∷ [])) (of_id p id behind) 0 n false A whole).first
          ∙ ap (λ (m : ℕ). numbered id 0 (chunks p m false A)) z
          ∙ packets_more p id 0 (length xs) false A

      long : length P ≡ length xs
      long = numbered_length id 0 (chunks p (length xs) false A) ∙ chunks_length p (length xs) false A

      packets_are : xs ≡ P
      packets_are = sym (take_at xs (k ∷ []) (length xs) refl) ∙ ap (take (length xs)) joined ∙ take_at P (r ∷ []) (length xs) long

      packet_is : k ≡ r
      packet_is = ap (λ (l : List Packet). get_or l 0 k) (sym (drop_at xs (k ∷ []) (length xs) refl) ∙ ap (drop (length xs)) joined ∙ drop_at P (r ∷ []) (length xs) long)

      line_is : line_at e id ≡ line_through idle P
      line_is = (heard p id (fresh_ear buffer) before (fresh_ok buffer hb)).line ∙ ap₂ line_through (fresh_line buffer id) packets_are

      none_lost : NoneLost (line_at e id).link k.index k.chunk.first k.chunk.last (length k.chunk.body)
      none_lost =
          rw (packet_is, line_is)
          (next_none p (rests p (length xs) A) (begun_after p (length xs) false A) (index_after (length xs) 0) (line_through idle P)
          (gone p id (length xs) A false 0 idle (idle_linked A 0 fair)).linked)

    none_of : (j : ℕ) → j < 4 → j ≡ k.id → NoneLost (line_at e j).link k.index k.chunk.first k.chunk.last (length k.chunk.body)
    none_of zero l o = none_lost 0 (count_of p 0 es) (accepted_of 0 es) (s.fair 0) (s.units 0 (omega arith)) o
    none_of (suc zero) l o = none_lost 1 (count_of p 1 es) (accepted_of 1 es) (s.fair 1) (s.units 1 (omega arith)) o
    none_of (suc (suc zero)) l o = none_lost 2 (count_of p 2 es) (accepted_of 2 es) (s.fair 2) (s.units 2 (omega arith)) o
    none_of (suc (suc (suc zero))) l o =
        none_lost 3 (count_of p 3 es) [] (record { some = tt; fit = tt }) (s.filler ∙ ap (numbered 3 0) (sym (nulls p (count_of p 3 es)))) o
    none_of (suc (suc (suc (suc j)))) l o = absurd (omega arith)

  step_is : step_number p e.receiver x (length e.buffer) ≡ check_for p x
  step_is = number_is p e x (heard p 0 (fresh_ear buffer) before (fresh_ok buffer hb)).ok

  kept_by : check_for p x ≡ 0 → Kept p e x
  unfolding told_for dropped_for dropped_in skipped_for skipped_in line_of
  kept_by z =
      let w = none_of (eq-eqb _ _ z) k.id (id_in p x) refl in
      record { accepted = step_is ∙ z; dropped = rw (step_is, z) w.dropped; skipped = rw (step_is, z) w.skipped }

-- of every run from the fresh state in which p stands
pub all_kept : (p : ℕ) (acts : List Act) (store : List ℕ) → length store ≡ 12288 → Stands p (log acts (fresh_desk store))
    → (buffer : List ℕ) → length buffer ≡ 16384 → AllKept p (log acts (fresh_desk store)) buffer
all_kept p acts store hs st buffer hb before behind x q =
    let E = log acts (fresh_desk store) in
    kept_by p E buffer (stream p acts store hs st) hb before behind x q
    (right_at p before behind x (subst (AllRight p) q (sent_right p E (reports p acts store hs st) st)))
