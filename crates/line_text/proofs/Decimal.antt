-- A number's decimal digits are found from the last one on. Assumes nothing.
use Rattle.std.proofs.Common.{◌≡◌, ℕ, zero, suc, ◌+◌, ◌-◌, ◌/◌, ◌%◌, ◌^◌, ◌≤◌, ◌<◌, List, [], ◌∷◌, ◌++◌, length, take, drop, length-drop, inl, inr, refl, sym, ap, ◌∙◌, append_assoc, arith}
use native.Mathlib.Nat.{pow-suc}
use borrow.Author.Tests.{lt-ltb, le-ltb}
use Rattle.std.proofs.lemmas.Bool.{cases_lt}
use Rattle.std.proofs.lemmas.List.{drop-set}
use Rattle.std.proofs.Math.ListN.{set, length-set}
use Rattle.std.proofs.Math.Seq.{take_all}
use Rattle.laws.proofs.Written.{front}
use Rattle.moves.specs.Moves as moves
use Rattle.moves.proofs.Pieces.{puts}
use Rattle.line_text.specs.Decimal.{digits_of, decimal}

-- the bound on the steps does not matter
enough : (f g n : ℕ) → n < f → n < g → digits_of f n ≡ digits_of g n
unfolding digits_of
enough zero g n h l = absurd (omega arith)
enough (suc f) zero n h l = absurd (omega arith)
enough (suc f) (suc g) n h l =
    elim (cases_lt n 10) [
      | inl e ↦ rw (lt-ltb n 10 e) refl
      | inr e ↦ rw (le-ltb n 10 e)
          (ap (λ (s : List ℕ). s ++ ((48 + n % 10) ∷ [])) (enough f g (n / 10) (omega arith) (omega arith)))
    ]

one_digit : (n : ℕ) → n < 10 → decimal n ≡ (48 + n) ∷ []
unfolding decimal digits_of
one_digit n h = rw (lt-ltb n 10 h) refl

last_digit : (n : ℕ) → 10 ≤ n → decimal n ≡ decimal (n / 10) ++ ((48 + n % 10) ∷ [])
unfolding decimal digits_of
last_digit n h = rw (le-ltb n 10 h) (ap (λ (s : List ℕ). s ++ ((48 + n % 10) ∷ [])) (enough n (suc (n / 10)) (n / 10) (omega arith) (omega arith)))

-- so many digits at most are left, and one is
pub fewer : (n i : ℕ) → 10 ≤ n → n < 10 ^ suc i → (1 ≤ i) × (n / 10 < 10 ^ i)
fewer n zero h l = absurd (omega (arith, pow-suc 10 0))
fewer n (suc i) h l = (omega arith, omega (arith, pow-suc 10 (suc i)))

-- the last digit of what is left of k goes before those found
pub found : (k n i : ℕ) (d : List ℕ) → 10 ≤ n → i < length d → decimal k ≡ decimal n ++ drop (i + 1) d
    → decimal k ≡ decimal (n / 10) ++ drop i (set d i (48 + n % 10))
found k n i d h l p =
    p ∙ ap (λ (s : List ℕ). s ++ drop (i + 1) d) (last_digit n h) ∙ append_assoc (decimal (n / 10)) ((48 + n % 10) ∷ []) (drop (i + 1) d)
    ∙ ap (λ (s : List ℕ). decimal (n / 10) ++ s) (sym (drop-set d i (48 + n % 10) l))

-- the first digit goes before the others, and all stand at the front where they are put there
pub spelled : (k n i : ℕ) (d out e : List ℕ) (m : ℕ) → n < 10 → i < length d → length d ≤ length out → decimal k ≡ decimal n ++ drop (i + 1) d
    → m ≡ moves.behind out 0 (take (length d - i) (drop i (set d i (48 + n)))) → e ≡ moves.placed out 0 (take (length d - i) (drop i (set d i (48 + n))))
    → (m ≤ length d) × (take m e ≡ decimal k)
spelled k n i d out e m h l s p q r =
    let all : List ℕ = drop i (set d i (48 + n)) in
    let z : length all ≡ length d - i = length-drop i (set d i (48 + n)) ∙ ap (λ (j : ℕ). j - i) (length-set d i (48 + n)) in
    let w : take (length d - i) all ≡ all = take_all (length d - i) all (omega arith) in
    let v = puts all out e 0 m (omega arith) (q ∙ ap (moves.behind out 0) w) (r ∙ ap (moves.placed out 0) w) in
    let x : m ≡ length all = v.end ∙ omega arith in (
      omega arith,
      ap (take m) v.text ∙ front out all m (sym x) ∙ drop-set d i (48 + n) l ∙ sym (p ∙ ap (λ (y : List ℕ). y ++ drop (i + 1) d) (one_digit n h)),
    )
