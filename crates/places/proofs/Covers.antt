-- The layout: the parts and the padding stand in order from 0 to the capacity, hence each position below the capacity lies in exactly one of
-- them, and none of them reaches further. Assumes nothing.
use mathlib.Core.Path.{◌≡◌, refl, sym, subst}
use mathlib.Core.Bool.{Bool, true, false}
use mathlib.Core.List.{List, [], ◌∷◌, ◌++◌, map}
use mathlib.Core.Logic.{⊎_elim}
use Prim.Native.Nat.{ℕ, zero, suc, ◌+◌, ◌≤◌, ◌<◌}
use native.Mathlib.Nat.{zero-add}
use native.Mathlib.Omega.{arith}
use borrow.Author.Tests.{lt-ltb, le-ltb, le-leb, lt-leb, eqb-true}
use lib.Dec.{eqb}
use lib.ListN.{length, get_or, replicate}
use Rattle.laws.specs.Pick.{pick}
use Rattle.laws.specs.Sum.{sum}
use Rattle.laws.specs.Refuse.{refused_with}
use Rattle.description.specs.declared.Description.{Description}
use Rattle.places.specs.declared.Part.{Part}
use Rattle.places.specs.Covering.{lies, covered, InOrder, all_of, Covers}
use Rattle.places.specs.Parts.{lengths_in, used_by, parts_from, parts_of, padding_of, layout_tests, no_part, Places, layout_for}
use Rattle.description.proofs.Meaning.{within}
use Rattle.places.proofs.Placing.{room}

-- where a position lies
lies_in : (p : ℕ) (x : Part) → x.at ≤ p → p < x.at + x.len → lies p x ≡ true
lies_in p x h k = rw (le-leb _ _ h) (lt-ltb _ _ k)

lies_before : (p : ℕ) (x : Part) → p < x.at → lies p x ≡ false
lies_before p x h = rw (lt-leb _ _ h)

lies_behind : (p : ℕ) (x : Part) → x.at + x.len ≤ p → lies p x ≡ false
lies_behind p x h = rw (le-leb x.at p (omega arith)) (le-ltb _ _ h)

-- before the first of the parts, in one of them, behind the last
reach : (from : ℕ) (xs : List Part) (to : ℕ) → InOrder from xs to → from ≤ to
reach from [] to o = omega arith
reach from (x ∷ xs) to o = let h = reach (from + x.len) xs to o.1 in omega arith

none_before : (p from : ℕ) (xs : List Part) (to : ℕ) → InOrder from xs to → p < from → covered p xs ≡ 0
unfolding covered
none_before p from [] to o h = refl
none_before p from (x ∷ xs) to o h =
    let e = o.0 in
    rw (lies_before p x (omega arith), none_before p (from + x.len) xs to o.1 (omega arith))

none_behind : (p from : ℕ) (xs : List Part) (to : ℕ) → InOrder from xs to → to ≤ p → covered p xs ≡ 0
unfolding covered
none_behind p from [] to o h = refl
none_behind p from (x ∷ xs) to o h =
    let e = o.0 in
    let r = reach (from + x.len) xs to o.1 in
    rw (lies_behind p x (omega arith), none_behind p (from + x.len) xs to o.1 h)

one_of : (p from : ℕ) (xs : List Part) (to : ℕ) → InOrder from xs to → from ≤ p → p < to → covered p xs ≡ 1
unfolding covered
one_of p from [] to o h k = absurd (omega arith)
one_of p from (x ∷ xs) to o h k =
    let e = o.0 in
    ⊎_elim
    (λ l. rw (lies_in p x (omega arith) (omega arith), none_before p (from + x.len) xs to o.1 l))
    (λ l. rw (lies_behind p x (omega arith), one_of p (from + x.len) xs to o.1 l k))
    (within p (from + x.len))

-- a part ends before a later one begins
starts : (from : ℕ) (xs : List Part) (to : ℕ) → InOrder from xs to → (k : ℕ) → k < length xs → from ≤ (get_or xs k no_part).at
starts from [] to o k h = absurd (omega arith)
starts from (x ∷ xs) to o zero h = let e = o.0 in omega arith
starts from (x ∷ xs) to o (suc k) h = let r = starts (from + x.len) xs to o.1 k (omega arith) in omega arith

before : (from : ℕ) (xs : List Part) (to : ℕ) → InOrder from xs to → (i j : ℕ) → i < j → j < length xs
    → (get_or xs i no_part).at + (get_or xs i no_part).len ≤ (get_or xs j no_part).at
before from [] to o i j h k = absurd (omega arith)
before from (x ∷ xs) to o i zero h k = absurd (omega arith)
before from (x ∷ xs) to o zero (suc j) h k = let e = o.0 in let r = starts (from + x.len) xs to o.1 j (omega arith) in omega arith
before from (x ∷ xs) to o (suc i) (suc j) h k = before (from + x.len) xs to o.1 i j (omega arith) (omega arith)

add_up_law : (from : ℕ) (xs : List Part) (to : ℕ) → InOrder from xs to → from + sum (map (λ x. x.len) xs) ≡ to
add_up_law from [] to o = omega arith
add_up_law from (x ∷ xs) to o = let r = add_up_law (from + x.len) xs to o.1 in omega arith

-- parts of any lengths, and what stands behind them
parts_order : (from : ℕ) (ns : List ℕ) (rest : List Part) (mid to : ℕ) → mid ≡ from + sum ns → InOrder mid rest to → InOrder from (parts_from from ns ++ rest) to
unfolding parts_from
parts_order from [] rest mid to e o = let k : mid ≡ from = omega arith in subst (λ (m : ℕ). InOrder m rest to) k o
parts_order from (n ∷ ns) rest mid to e o = (refl, parts_order (from + n) ns rest mid to (omega arith) o)

covers_of : (capacity : ℕ) (parts : List Part) (padding : Part) → InOrder 0 (all_of parts padding) capacity → Covers capacity parts padding
covers_of capacity parts padding o =
    let xs = all_of parts padding in
    record {
      order = o;
      lengths = let r = add_up_law 0 xs capacity o in omega arith;
      once = λ p h. one_of p 0 xs capacity o (omega arith) h;
      none = λ p h. none_behind p 0 xs capacity o h;
      apart = λ i j h k. before 0 xs capacity o i j h k;
    }

pub laid_out : (capacity : ℕ) (d : Description) (mode : ℕ) → (layout_for capacity d mode).number ≡ 0 → refused_with (layout_tests capacity d mode) ≡ 0
unfolding layout_for
laid_out capacity d mode e = go (eqb (refused_with (layout_tests capacity d mode)) 0) refl e
  where
    n : ℕ
    n = refused_with (layout_tests capacity d mode)

    go : (b : Bool) → eqb n 0 ≡ b
        → (pick {A = Places} b (record { number = 0; part = parts_of d; padding = padding_of capacity d }) (record { number = n; part = replicate 8 no_part; padding = no_part })).number ≡ 0
        → n ≡ 0
    go true p q = eqb-true n 0 p
    go false p q = q

-- the layout of a capacity that is not refused
pub covers : (capacity : ℕ) (d : Description) (mode : ℕ) → (layout_for capacity d mode).number ≡ 0
    → Covers capacity (layout_for capacity d mode).part (layout_for capacity d mode).padding
unfolding layout_for parts_of padding_of used_by
covers capacity d mode e =
    let z = laid_out capacity d mode e in
    let r : used_by d ≤ capacity = room capacity d mode 0 (sym z) refl in
    rw z (covers_of capacity (parts_of d) (padding_of capacity d)
    (parts_order 0 (lengths_in d) (padding_of capacity d ∷ []) (used_by d) capacity (sym (zero-add (used_by d))) (refl, omega arith)))
