-- A queue's packets seen in the bytes that it holds: each says the next piece of the first unit, and takes it away. Assumes nothing.
use Prim.Native.Nat.{ℕ, zero, suc, ◌+◌, ◌-◌, ◌<◌, ◌≤◌, min}
use mathlib.Core.Path.{◌≡◌, refl, sym, ap, ap₂, ◌∙◌}
use mathlib.Core.List.{List, [], ◌∷◌, ◌++◌}
use mathlib.Core.Bool.{Bool, true, false, not}
use native.Mathlib.Omega.{arith}
use borrow.Author.Tests.{ne_eqb, leb-true, leb-false, eqb-true}
use lib.Dec.{leb, eqb}
use lib.ListN.{length, take, drop, get_or, length-take, length-drop}
use lib.Seq.{take_all, take-take, drop-drop, take-add, drop_at, length-take-le}
use Rattle.laws.specs.Pick.{pick}
use Rattle.packet.specs.Packet.{Chunk}
use Rattle.queue.specs.Queue.{add_up, same, units, unsent, waits}
use Rattle.queue.specs.Send.{one}
use Rattle.queue.specs.declared.Queue.{Queue}
use Rattle.queue.proofs.Sending.{waits_send}
use Rattle.row.specs.Row.{head_len, popped, drop_first, stepped, steps}
use Rattle.row.specs.Private.{InRegion}
use Rattle.row.specs.Content.{cut, content_of, begun_in, chunk_of, rest_of, begun_of, rests, begun_after, chunks}
use Rattle.row.specs.declared.Out.{Out}
use Rattle.queue.proofs.Taken.{pop_at}
use Rattle.row.proofs.Steps.{sound_in, whole_steps}
use Rattle.demand.proofs.Served.{steps_units}
use Rattle.demand.proofs.Rows.{chunk_at, row_chunks}

-- ---- lists
pub take_drop : (m n : ℕ) (s : List ℕ) → n ≤ length s → take m (drop n s) ≡ drop n (take (n + m) s)
take_drop m n s h = sym (ap (drop n) (take-add n m s) ∙ drop_at (take n s) (take m (drop n s)) n (length-take-le n s h))

take_min : (x p : ℕ) (s : List ℕ) → take (min x p) s ≡ take p (take x s)
take_min x p s = go (leb x p) refl
  where
    go : (b : Bool) → leb x p ≡ b → take (min x p) s ≡ take p (take x s)
    go true e =
        let k : x ≤ p = leb-true _ _ e in
        let m : min x p ≡ x = omega arith in
        rw m (sym (take_all p (take x s) (omega (arith, length-take x s))))
    go false e =
        let k : p < x = leb-false _ _ e in
        let m : min x p ≡ p = omega arith in
        rw m (sym (take-take p x s (omega arith)))

-- one packet's bytes off
cut_one : (p : ℕ) (xs s : List ℕ) → add_up same xs ≤ length s → cut (one p xs) (drop (min (get_or xs 0 0) p) s) ≡ rest_of p (cut xs s)
unfolding cut one rest_of add_up
cut_one p [] s h = refl
cut_one p (x ∷ xs) s h = go (leb x p) refl
  where
    lx : length (take x s) ≡ x
    lx = length-take-le x s (omega arith)

    go : (b : Bool) → leb x p ≡ b → cut (pick b xs ((x - p) ∷ xs)) (drop (min x p) s) ≡ pick (leb (length (take x s)) p) (cut xs (drop x s)) (drop p (take x s) ∷ cut xs (drop x s))
    go true e =
        let k : x ≤ p = leb-true _ _ e in
        let m : min x p ≡ x = omega arith in
        rw (lx, e, m)
    go false e =
        let k : p < x = leb-false _ _ e in
        let m : min x p ≡ p = omega arith in
        let q : p + (x - p) ≡ x = omega arith in
        rw (lx, e, m) (ap₂ (λ (a : List ℕ) (b : List (List ℕ)). a ∷ b) (take_drop (x - p) p s (omega arith) ∙ ap (λ (k : ℕ). drop p (take k s)) q) (ap (cut xs) (drop-drop (x - p) p s ∙ ap (λ (k : ℕ). drop k s) q)))

-- ---- the head of a queue
head_unit : (l : List ℕ) (c p : ℕ) → pick (eqb c 0) 0 (min (get_or l 0 0) p) ≡ min (get_or (take c l) 0 0) p
head_unit l zero p = omega arith
head_unit [] (suc c) p = simp (ne_eqb (suc c) 0 (λ e. omega arith))
head_unit (x ∷ l) (suc c) p = simp (ne_eqb (suc c) 0 (λ e. omega arith))

head_len_is : (p : ℕ) (q : Queue) → head_len p q ≡ min (get_or (units q) 0 0) p
unfolding head_len
head_len_is p q = head_unit q.left q.count p

not_not : (b : Bool) → not (not b) ≡ b
not_not true = refl
not_not false = refl

first_of : (l : List ℕ) (c x : ℕ) (xs : List ℕ) → take c l ≡ x ∷ xs → get_or l 0 0 ≡ x
first_of l c x xs e = go l c (ap (λ (k : List ℕ). get_or k 0 0) e) (ap length e)
  where
    go : (l : List ℕ) (c : ℕ) → get_or (take c l) 0 0 ≡ x → length (take c l) ≡ suc (length xs) → get_or l 0 0 ≡ x
    go l zero f g = absurd (omega arith)
    go [] (suc c) f g = absurd (omega arith)
    go (y ∷ l) (suc c) f g = f

-- ---- one packet
module _ (p : ℕ) (hp : 1 ≤ p) (region : List ℕ) (l : length region ≡ 4096) (o : Out) (w : InRegion p o 4096) where
  room_left : add_up same (units o.q) ≤ length (drop o.at region)
  unfolding unsent
  room_left = let i = w.inside in omega (arith, length-drop o.at region)

  -- what is left behind it
  left_after : content_of (stepped p o).q (drop (stepped p o).at region) ≡ rest_of p (content_of o.q (drop o.at region))
  unfolding stepped content_of
  left_after =
      let s = sound_in p 4096 o w in
      let k = pop_at p o.q s.eight s.count in
      ap₂ cut k.list (sym (drop-drop (head_len p o.q) o.at region) ∙ ap (λ (n : ℕ). drop n (drop o.at region)) (head_len_is p o.q))
      ∙ cut_one p (units o.q) (drop o.at region) room_left

  module _ (x : ℕ) (xs : List ℕ) (e : units o.q ≡ x ∷ xs) where
    lx : length (take x (drop o.at region)) ≡ x
    unfolding add_up
    lx = length-take-le x (drop o.at region) (omega (arith, room_left, ap (add_up same) e))

    first_left : get_or o.q.left 0 0 ≡ x
    first_left = first_of o.q.left o.q.count x xs e

    -- it says the next piece
    chunk_is : chunk_at p region o ≡ chunk_of p (begun_in o.q) (content_of o.q (drop o.at region))
    unfolding chunk_of cut begun_in content_of
    chunk_is =
        let s = drop o.at region in
        let m : head_len p o.q ≡ min x p = head_len_is p o.q ∙ ap (λ (k : List ℕ). min (get_or k 0 0) p) e in
        let t : take (min x p) s ≡ take p (take x s) = take_min x p s in
        rw (e, lx, m, t, not_not (eqb o.q.sent 0))

    begun_after_law : begun_in (stepped p o).q ≡ begun_of p (content_of o.q (drop o.at region))
    unfolding stepped popped drop_first begun_in begun_of cut content_of
    begun_after_law = rw (e, lx) (sent_is (eqb o.q.count 0) refl (leb x p) refl)
      where
        sent_is : (c : Bool) → eqb o.q.count 0 ≡ c → (d : Bool) → leb x p ≡ d → begun_in (popped p o.q) ≡ not (leb x p)
        sent_is true ec d ed = let z : o.q.count ≡ 0 = eqb-true _ _ ec in absurd (omega (arith, ap length e, length-take o.q.count o.q.left))
        sent_is false ec true ed = simp (ec, first_left, ed)
        sent_is false ec false ed = simp (ec, first_left, ed, ne_eqb (o.q.sent + p) 0 (λ z. omega arith))

-- ---- n packets
some_unit : (p : ℕ) (xs : List ℕ) → 1 ≤ waits p xs → (P : Type 0) → ((y : ℕ) (ys : List ℕ) → xs ≡ y ∷ ys → P) → P
unfolding waits add_up
some_unit p [] h P f = absurd (omega arith)
some_unit p (y ∷ ys) h P f = f y ys refl

none_there : (y : ℕ) (ys xs s : List ℕ) → xs ≡ y ∷ ys → cut xs s ≡ [] → ⊥
unfolding cut
none_there y ys [] s f e = let z : 0 ≡ suc (length ys) = ap length f in omega arith
none_there y ys (x ∷ xs) s f e = let z : suc (length (cut xs (drop x s))) ≡ 0 = ap length e in omega arith

module _ (p : ℕ) (hp : 1 ≤ p) (region : List ℕ) (l : length region ≡ 4096) (o : Out) (w : InRegion p o 4096) where
  abbrev us : List (List ℕ)
  us = content_of o.q (drop o.at region)

  pub left_steps : (n : ℕ) → content_of (steps p n o).q (drop (steps p n o).at region) ≡ rests p n us
  unfolding steps rests
  left_steps zero = refl
  left_steps (suc n) = left_after p hp region l (steps p n o) (whole_steps p 4096 n o hp w) ∙ ap (rest_of p) (left_steps n)

  still : (n : ℕ) → n < waits p (units o.q) → 1 ≤ waits p (units (steps p n o).q)
  still n h =
      let s = sound_in p 4096 o w in
      omega (arith, ap (waits p) (steps_units p n o hp w), waits_send p hp n (units o.q) s.pos)

  pub begun_steps : (n : ℕ) → n ≤ waits p (units o.q) → begun_in (steps p n o).q ≡ begun_after p n (begun_in o.q) us
  unfolding steps begun_after
  begun_steps zero h = refl
  begun_steps (suc n) h =
      some_unit p (units (steps p n o).q) (still n h) _ (λ y ys e. begun_after_law p hp region l (steps p n o) (whole_steps p 4096 n o hp w) y ys e)
      ∙ ap (begun_of p) (left_steps n)

  -- the packets of a row say the next pieces of its units, in order
  pub row_pieces : (n : ℕ) → n ≤ waits p (units o.q) → row_chunks p region n o ≡ chunks p n (begun_in o.q) us
  unfolding row_chunks chunks
  row_pieces zero h = refl
  row_pieces (suc n) h =
      ap₂ (λ (a : List Chunk) (b : Chunk). a ++ (b ∷ [])) (row_pieces n (omega arith))
      (some_unit p (units (steps p n o).q) (still n h) _ (λ y ys e. chunk_is p hp region l (steps p n o) (whole_steps p 4096 n o hp w) y ys e)
      ∙ ap₂ (chunk_of p) (begun_steps n (omega arith)) (left_steps n))

  -- while packets wait, something is left
  pub some_left : (n : ℕ) → n < waits p (units o.q) → rests p n us ≡ [] → ⊥
  unfolding content_of
  some_left n h e =
      some_unit p (units (steps p n o).q) (still n h) ⊥ (λ y ys f. none_there y ys (units (steps p n o).q) (drop (steps p n o).at region) f (left_steps n ∙ e))
