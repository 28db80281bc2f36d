-- A part of a slice that a call has rewritten, as a write. Assumes nothing.
use mathlib.Core.Path.{◌≡◌, ap, ◌∙◌}
use mathlib.Core.List.{List, [], ◌++◌, append-nil}
use Prim.Native.Nat.{ℕ, ◌+◌, ◌-◌, ◌≤◌}
use native.Mathlib.Omega.{arith}
use lib.ListN.{length, take, drop, length-drop, drop_of_length-le}
use lib.Seq.{drop-drop}
use Rattle.laws.specs.Written.{written}

-- y stands where the k bytes at the offset stood
pub part_written : (d y : List ℕ) (at k : ℕ) → k ≡ length y → take at d ++ (y ++ drop k (drop at d)) ≡ written d at y
unfolding written
part_written d y at k e = ap (λ (l : List ℕ). take at d ++ (y ++ l)) (drop-drop k at d ∙ ap (λ (n : ℕ). drop (at + n) d) e)

-- the same where the part reaches to the end, and a call has written xs to its front
pub tail_written : (d y xs : List ℕ) (at m : ℕ) → length d - at ≤ m → y ≡ written (drop at d) 0 xs → take at d ++ (y ++ drop m (drop at d)) ≡ written d at xs
unfolding written
tail_written d y xs at m h e =
    let n : drop m (drop at d) ≡ [] = drop_of_length-le (drop at d) {i = m} (omega (arith, length-drop at d)) in
    let z : 0 + length xs ≡ length xs = omega arith in
    ap (λ (l : List ℕ). take at d ++ (y ++ l)) n
    ∙ ap (λ (l : List ℕ). take at d ++ l) (append-nil y ∙ e ∙ ap (λ (k : ℕ). xs ++ drop k (drop at d)) z ∙ ap (λ (l : List ℕ). xs ++ l) (drop-drop (length xs) at d))
