-- Reading fields and writing them are each other's inverse, for every list of widths, and a layout may be cut in two. Assumes nothing.
use mathlib.Core.Path.{◌≡◌, refl, sym, ap, ap₂, ◌∙◌}
use mathlib.Core.List.{List, [], ◌∷◌, ◌++◌}
use Prim.Native.Nat.{ℕ, suc, ◌+◌, ◌*◌, ◌/◌, ◌%◌, ◌^◌, ◌<◌}
use native.Mathlib.Nat.{mod-one, mod-mod, mod-lt, mod-eq_of_lt, zero-add, zero-mul, add_assoc, add_comm, add-mul, mul_assoc, suc_inj, div-div-eq-div-mul}
use native.Mathlib.Omega.{arith}
use lib.Arith.{digits_lt}
use lib.ListN.{length}
use lib.Pow.{pow_pos, pow-add, mod-pow-add, field, mod-mod-pow, high, low}
use Rattle.laws.specs.Fields.{total, fields_of, number_of, Fit}

pub number_fields : (ws : List ℕ) (x : ℕ) → number_of ws (fields_of ws x) ≡ x % 2 ^ total ws
number_fields [] x = sym (mod-one x)
number_fields (w ∷ ws) x =
    ap (λ (n : ℕ). x / 2 ^ total ws % 2 ^ w * 2 ^ total ws + n) (number_fields ws x) ∙ sym (mod-pow-add x w (total ws))

-- only the low bits count
fields_mod : (ws : List ℕ) (x : ℕ) → fields_of ws (x % 2 ^ total ws) ≡ fields_of ws x
fields_mod [] x = refl
fields_mod (w ∷ ws) x =
    ap₂ (λ (n : ℕ) (l : List ℕ). n ∷ l)
    (ap (λ (n : ℕ). n % 2 ^ w) (field x w (total ws)) ∙ mod-mod (x / 2 ^ total ws) (2 ^ w))
    (sym (fields_mod ws (x % 2 ^ (w + total ws))) ∙ ap (fields_of ws) (mod-mod-pow x w (total ws)) ∙ fields_mod ws x)

pub number_lt : (ws vs : List ℕ) → Fit ws vs → number_of ws vs < 2 ^ total ws
number_lt [] [] h = pow_pos 0
number_lt [] (v ∷ vs) h = absurd h
number_lt (w ∷ ws) [] h = absurd h
number_lt (w ∷ ws) (v ∷ vs) h = rw pow-add (digits_lt h.0 (number_lt ws vs h.1))

pub fields_number : (ws vs : List ℕ) → Fit ws vs → fields_of ws (number_of ws vs) ≡ vs
fields_number [] [] h = refl
fields_number [] (v ∷ vs) h = absurd h
fields_number (w ∷ ws) [] h = absurd h
fields_number (w ∷ ws) (v ∷ vs) h =
    let n = number_of ws vs in
    let s : n < 2 ^ total ws = number_lt ws vs h.1 in
    ap₂ (λ (n : ℕ) (l : List ℕ). n ∷ l)
    (ap (λ (k : ℕ). k % 2 ^ w) (high v (total ws) s) ∙ mod-eq_of_lt h.0)
    (sym (fields_mod ws (v * 2 ^ total ws + n)) ∙ ap (fields_of ws) (low v (total ws) s) ∙ fields_number ws vs h.1)

pub fields_fit : (ws : List ℕ) (x : ℕ) → Fit ws (fields_of ws x)
fields_fit [] x = tt
fields_fit (w ∷ ws) x = (mod-lt (x / 2 ^ total ws) (pow_pos w), fields_fit ws x)

-- a layout cut in two: the fields before the cut are those of the number's upper bits
pub total_append : (us ws : List ℕ) → total (us ++ ws) ≡ total us + total ws
total_append [] ws = sym (zero-add (total ws))
total_append (u ∷ us) ws = ap (λ (n : ℕ). u + n) (total_append us ws) ∙ sym (add_assoc u (total us) (total ws))

pub fields_append : (us ws : List ℕ) (x : ℕ) → fields_of (us ++ ws) x ≡ fields_of us (x / 2 ^ total ws) ++ fields_of ws x
fields_append [] ws x = refl
fields_append (u ∷ us) ws x =
    ap₂ (λ (n : ℕ) (l : List ℕ). n % 2 ^ u ∷ l)
    (ap (λ (n : ℕ). x / 2 ^ n) (total_append us ws ∙ add_comm (total us) (total ws))
    ∙ ap (λ (n : ℕ). x / n) (pow-add 2 (total ws) (total us))
    ∙ sym (div-div-eq-div-mul x (2 ^ total ws) (2 ^ total us)))
    (fields_append us ws x)

pub number_append : (us ws xs ys : List ℕ) → length us ≡ length xs → number_of (us ++ ws) (xs ++ ys) ≡ number_of us xs * 2 ^ total ws + number_of ws ys
number_append [] ws [] ys e = sym (ap (λ (n : ℕ). n + number_of ws ys) (zero-mul (2 ^ total ws)) ∙ zero-add (number_of ws ys))
number_append [] ws (x ∷ xs) ys e = absurd (omega arith)
number_append (u ∷ us) ws [] ys e = absurd (omega arith)
number_append (u ∷ us) ws (x ∷ xs) ys e =
    let k : 2 ^ total (us ++ ws) ≡ 2 ^ total us * 2 ^ total ws = ap (λ (n : ℕ). 2 ^ n) (total_append us ws) ∙ pow-add 2 (total us) (total ws) in
    let m : x * (2 ^ total us * 2 ^ total ws) ≡ x * 2 ^ total us * 2 ^ total ws = sym (mul_assoc x (2 ^ total us) (2 ^ total ws)) in
    ap₂ (λ (p q : ℕ). x * p + q) k (number_append us ws xs ys (suc_inj e))
    ∙ ap (λ (n : ℕ). n + (number_of us xs * 2 ^ total ws + number_of ws ys)) m
    ∙ sym (add_assoc (x * 2 ^ total us * 2 ^ total ws) (number_of us xs * 2 ^ total ws) (number_of ws ys))
    ∙ ap (λ (n : ℕ). n + number_of ws ys) (sym (add-mul (x * 2 ^ total us) (number_of us xs) (2 ^ total ws)))

pub fields_length : (ws : List ℕ) (x : ℕ) → length (fields_of ws x) ≡ length ws
fields_length [] x = refl
fields_length (w ∷ ws) x = ap suc (fields_length ws x)
