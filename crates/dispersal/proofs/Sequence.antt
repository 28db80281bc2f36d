-- The dispersal sequence: what stands at each index, its period, and that dispersal undoes itself.
-- Assumes nothing.
use mathlib.Core.Path.{◌≡◌, refl, sym, ap, ap₂, ◌∙◌}
use mathlib.Core.List.{List, [], ◌∷◌}
use Prim.Native.Nat.{ℕ, zero, suc, ◌+◌, ◌*◌, ◌/◌, ◌%◌, ◌<◌}
use native.Mathlib.Nat.{le_of_suc-le-suc, not-suc-le-zero, div-add-mod', mod-lt, zero-add, suc-add}
use native.Mathlib.Omega.{arith}
use lib.Bits.{bit_xor}
use lib.Dec.{lit<}
use lib.ListN.{length, get_or, replicate, get_or-replicate, length-replicate}
use Rattle.laws.proofs.Xor.{xor_twice}
use Rattle.dispersal.specs.Dispersal.{push, next, dispersed_from, ones, dispersed}

-- the register n bytes later
unfoldable pub after : ℕ → ℕ → ℕ
after r zero = r
after r (suc n) = after (next r) n

length_from : (r : ℕ) (xs : List ℕ) → length (dispersed_from r xs) ≡ length xs
unfolding dispersed_from
length_from r [] = refl
length_from r (x ∷ xs) = ap suc (length_from (next r) xs)

pub length_dispersed : (xs : List ℕ) → length (dispersed xs) ≡ length xs
unfolding dispersed
length_dispersed xs = length_from ones xs

from_at : (r : ℕ) (xs : List ℕ) (k : ℕ) → k < length xs → get_or (dispersed_from r xs) k 0 ≡ bit_xor (get_or xs k 0) (next (after r k) % 256)
unfolding dispersed_from after
from_at r [] k h = absurd (not-suc-le-zero h)
from_at r (x ∷ xs) zero h = refl
from_at r (x ∷ xs) (suc k) h = from_at (next r) xs k (le_of_suc-le-suc h)

after_add : (r m n : ℕ) → after r (m + n) ≡ after (after r m) n
unfolding after
after_add r zero n = ap (after r) (zero-add n)
after_add r (suc m) n = ap (after r) (suc-add m n) ∙ after_add (next r) m n

-- the register one byte on
pub after_one : (r n : ℕ) → next (after r n) ≡ after r (n + 1)
unfolding after
after_one r n = sym (after_add r n 1)

-- byte k of a block is XORed with the low eight bits of the register after it
pub byte_at : (xs : List ℕ) (k q : ℕ) → k < length xs → q % 512 ≡ next (after ones k) → bit_xor (get_or xs k 0) (q % 256) ≡ get_or (dispersed xs) k 0
unfolding dispersed
byte_at xs k q h e =
    let low : q % 256 ≡ q % 512 % 256 = omega arith in
    ap (bit_xor (get_or xs k 0)) (low ∙ ap (λ (r : ℕ). r % 256) e) ∙ sym (from_at ones xs k h)

-- the sequence comes round after 511 bytes: antt computes it
period : after ones 511 ≡ ones
unfolding after next push
period = refl

turns : (q k : ℕ) → after ones (q * 511 + k) ≡ after ones k
turns zero k = ap (after ones) (omega arith)
turns (suc q) k =
    let e : suc q * 511 + k ≡ 511 + (q * 511 + k) = omega arith in
    ap (after ones) e ∙ after_add ones 511 (q * 511 + k) ∙ ap (λ (r : ℕ). after r (q * 511 + k)) period ∙ turns q k

-- the 511 bytes of the sequence: zeros, dispersed
abbrev pub bytes : List ℕ
bytes = dispersed (replicate 511 0)

-- byte k of a block is XORed with entry k modulo 511
pub dispersed_at : (xs : List ℕ) (k : ℕ) → k < length xs → bit_xor (get_or xs k 0) (get_or bytes (k % 511) 0) ≡ get_or (dispersed xs) k 0
unfolding dispersed
dispersed_at xs k h =
    let m : k % 511 < 511 = mod-lt k (lit< tt) in
    ap (bit_xor (get_or xs k 0))
    (from_at ones (replicate 511 0) (k % 511) (rw length-replicate m)
    ∙ ap₂ (λ (x r : ℕ). bit_xor x (next r % 256)) (get_or-replicate 511 (k % 511) 0 0 m)
    (sym (turns (k / 511) (k % 511)) ∙ ap (after ones) (div-add-mod' k 511)))
    ∙ sym (from_at ones xs k h)

twice_from : (r : ℕ) (xs : List ℕ) → dispersed_from r (dispersed_from r xs) ≡ xs
unfolding dispersed_from
twice_from r [] = refl
twice_from r (x ∷ xs) = ap₂ (λ (y : ℕ) (l : List ℕ). y ∷ l) (xor_twice x (next r % 256)) (twice_from (next r) xs)

-- applied twice it gives the data back
pub twice : (xs : List ℕ) → dispersed (dispersed xs) ≡ xs
unfolding dispersed
twice xs = twice_from ones xs
