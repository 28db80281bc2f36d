-- Big-endian numbers, for every number of bytes: spelling and reading are each other's inverse, and a number may be cut in two.
-- Assumes nothing.
use mathlib.Core.Path.{◌≡◌, refl, sym, ap, ◌∙◌, subst}
use mathlib.Core.List.{List, [], ◌∷◌, ◌++◌}
use Prim.Native.Nat.{ℕ, zero, suc, ◌+◌, ◌*◌, ◌/◌, ◌%◌, ◌^◌, ◌<◌}
use native.Mathlib.Nat.{mod-eq_of_lt}
use native.Mathlib.Omega.{arith}
use lib.Seq.{get_or-drop}
use lib.ListN.{length, take, drop, length-append, length-replicate, replicate-append-replicate}
use Rattle.laws.specs.Big.{eights, bytes_of, big_of, Bytes}
use Rattle.laws.specs.Fields.{total, fields_of, number_of, Fit}
use Rattle.laws.proofs.Fields.{number_fields, fields_number, number_lt, fields_append, number_append, fields_length}

pub total_eights : (n : ℕ) → total (eights n) ≡ 8 * n
total_eights zero = refl
total_eights (suc n) = let e = total_eights n in omega arith

-- bytes fit their layout
pub bytes_fit : (s : List ℕ) → Bytes s → Fit (eights (length s)) s
bytes_fit [] b = tt
bytes_fit (x ∷ s) b = (b 0, bytes_fit s (λ i. b (suc i)))

fit_bytes : (n : ℕ) (s : List ℕ) → Fit (eights n) s → Bytes s
fit_bytes zero [] f i = omega arith
fit_bytes zero (x ∷ s) f i = absurd f
fit_bytes (suc n) [] f i = absurd f
fit_bytes (suc n) (x ∷ s) f zero = f.0
fit_bytes (suc n) (x ∷ s) f (suc i) = fit_bytes n s f.1 i

-- and so do parts of them
pub bytes_take : (n : ℕ) (s : List ℕ) → Bytes s → Bytes (take n s)
bytes_take zero s b i = omega arith
bytes_take (suc n) [] b i = b i
bytes_take (suc n) (x ∷ s) b zero = b zero
bytes_take (suc n) (x ∷ s) b (suc i) = bytes_take n s (λ j. b (suc j)) i

pub bytes_drop : (n : ℕ) (s : List ℕ) → Bytes s → Bytes (drop n s)
bytes_drop n s b i = rw get_or-drop (b (n + i))

-- what is spelled is n bytes
pub bytes_length : (n x : ℕ) → length (bytes_of n x) ≡ n
unfolding bytes_of
bytes_length n x = fields_length (eights n) x ∙ length-replicate n 8

pub bytes_of_law : (n x : ℕ) → Bytes (bytes_of n x)
unfolding bytes_of
bytes_of_law n x = fit_bytes n (fields_of (eights n) x) (Rattle.laws.proofs.Fields.fields_fit (eights n) x)

-- read, what was spelled
pub big_bytes : (n x : ℕ) → big_of (bytes_of n x) ≡ x % 2 ^ (8 * n)
unfolding bytes_of big_of
big_bytes n x =
    ap (λ (k : ℕ). number_of (eights k) (fields_of (eights n) x)) (bytes_length n x)
    ∙ number_fields (eights n) x
    ∙ ap (λ (k : ℕ). x % 2 ^ k) (total_eights n)

pub big_back : (n x : ℕ) → x < 2 ^ (8 * n) → big_of (bytes_of n x) ≡ x
big_back n x h = big_bytes n x ∙ mod-eq_of_lt h

-- spelled, what was read
pub bytes_back : (s : List ℕ) → Bytes s → bytes_of (length s) (big_of s) ≡ s
unfolding bytes_of big_of
bytes_back s b = fields_number (eights (length s)) s (bytes_fit s b)

pub big_lt : (s : List ℕ) → Bytes s → big_of s < 2 ^ (8 * length s)
unfolding big_of
big_lt s b = subst (λ (k : ℕ). big_of s < 2 ^ k) (total_eights (length s)) (number_lt (eights (length s)) s (bytes_fit s b))

-- cut in two
pub bytes_append : (m n x : ℕ) → bytes_of (m + n) x ≡ bytes_of m (x / 2 ^ (8 * n)) ++ bytes_of n x
unfolding bytes_of
bytes_append m n x =
    ap (λ (ws : List ℕ). fields_of ws x) (sym (replicate-append-replicate m n 8))
    ∙ fields_append (eights m) (eights n) x
    ∙ ap (λ (k : ℕ). fields_of (eights m) (x / 2 ^ k) ++ fields_of (eights n) x) (total_eights n)

pub big_append : (s t : List ℕ) → big_of (s ++ t) ≡ big_of s * 2 ^ (8 * length t) + big_of t
unfolding big_of
big_append s t =
    ap (λ (k : ℕ). number_of (eights k) (s ++ t)) (length-append s t)
    ∙ ap (λ (ws : List ℕ). number_of ws (s ++ t)) (sym (replicate-append-replicate (length s) (length t) 8))
    ∙ number_append (eights (length s)) (eights (length t)) s t (length-replicate (length s) 8)
    ∙ ap (λ (k : ℕ). big_of s * 2 ^ k + big_of t) (total_eights (length t))
