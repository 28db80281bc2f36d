-- Fronts and middles of lists of units. Assumes nothing.
use Prim.Native.Nat.{ℕ, zero, suc, ◌-◌}
use mathlib.Core.Path.{◌≡◌, sym, ap, ◌∙◌}
use mathlib.Core.List.{List, [], ◌∷◌, ◌++◌}
use native.Mathlib.Omega.{arith}
use lib.ListN.{length, take, drop, length-append, length-drop}
use lib.Seq.{take_at, take-nil}

-- what stands in front of the last n
pub front : (u w a : List (List ℕ)) (n : ℕ) → u ++ w ≡ a → length w ≡ n → u ≡ take (length a - n) a
front u w a n e f =
    let k : length u ≡ length a - n = omega (arith, length-append u w, ap length e) in
    sym (ap (take (length a - n)) (sym e) ∙ take_at u w (length a - n) k)

-- t of them, less the first f
pub middle : (f t : ℕ) (a : List (List ℕ)) → take (length (drop f a) - (length a - t)) (drop f a) ≡ drop f (take t a)
middle zero zero a = let z : length a - (length a - 0) ≡ 0 = omega arith in ap (λ (n : ℕ). take n a) z
middle zero (suc t) [] = take-nil {A = List ℕ} (0 - (0 - suc t))
middle zero (suc t) (u ∷ a) = let z : length (u ∷ a) - (length (u ∷ a) - suc t) ≡ suc (length a - (length a - t)) = omega arith in ap (λ (n : ℕ). take n (u ∷ a)) z ∙ ap (λ (l : List (List ℕ)). u ∷ l) (middle zero t a)
middle (suc f) t [] = take-nil {A = List ℕ} (0 - (0 - t)) ∙ sym (ap (drop (suc f)) (take-nil {A = List ℕ} t))
middle (suc f) zero (u ∷ a) = let z : length (drop f a) - (length (u ∷ a) - 0) ≡ 0 = omega (arith, length-drop f a) in ap (λ (n : ℕ). take n (drop f a)) z
middle (suc f) (suc t) (u ∷ a) = let z : length (drop f a) - (length (u ∷ a) - suc t) ≡ length (drop f a) - (length a - t) = omega arith in ap (λ (n : ℕ). take n (drop f a)) z ∙ middle f t a
