-- Laws of `bit_xor` that `lib.Bits` lacks. Assumes nothing.
use mathlib.Core.Path.{◌≡◌, refl, sym, ap, ap₂, ◌∙◌}
use Prim.Native.Nat.{ℕ, zero, suc, ◌+◌, ◌*◌, ◌/◌, ◌%◌, ◌<◌}
use native.Mathlib.Nat.{mod-lt, add-zero, one-mul, zero-mul}
use native.Mathlib.Omega.{arith}
use lib.Arith.{bin_ind}
use lib.Dec.{lit<}
use lib.Bits.{bit_xor, differ, xor_step, xor_shr, xor_mod, xor_comm, xor_self, xor_zero_r, xor_block}

differ_assoc : (x y z : ℕ) → x < 2 → y < 2 → z < 2 → differ (differ x y) z ≡ differ x (differ y z)
differ_assoc zero y z hx hy hz = refl
differ_assoc (suc zero) zero z hx hy hz = refl
differ_assoc (suc zero) (suc zero) zero hx hy hz = refl
differ_assoc (suc zero) (suc zero) (suc zero) hx hy hz = refl
differ_assoc (suc zero) (suc zero) (suc (suc z)) hx hy hz = absurd (omega arith)
differ_assoc (suc zero) (suc (suc y)) z hx hy hz = absurd (omega arith)
differ_assoc (suc (suc x)) y z hx hy hz = absurd (omega arith)

bit : (x y : ℕ) → x < 2 → y < 2 → bit_xor x y ≡ differ x y
bit zero y hx hy = refl
bit (suc zero) zero hx hy = refl
bit (suc zero) (suc zero) hx hy = refl
bit (suc zero) (suc (suc y)) hx hy = absurd (omega arith)
bit (suc (suc x)) y hx hy = absurd (omega arith)

low : (n : ℕ) → n % 2 < 2
low n = mod-lt n (lit< tt)

odd : (a b : ℕ) → bit_xor a b % 2 ≡ differ (a % 2) (b % 2)
odd a b = xor_mod a b 1 ∙ bit (a % 2) (b % 2) (low a) (low b)

pub xor_assoc : (a b c : ℕ) → bit_xor (bit_xor a b) c ≡ bit_xor a (bit_xor b c)
xor_assoc =
    bin_ind (λ (n : ℕ). (b c : ℕ) → bit_xor (bit_xor n b) c ≡ bit_xor n (bit_xor b c)) (λ b c. refl)
    (λ n ih b c.
    xor_step (bit_xor n b) c
    ∙ ap₂ (λ (x y : ℕ). bit_xor x (c / 2) * 2 + differ y (c % 2)) (xor_shr n b 1) (odd n b)
    ∙ ap₂ (λ (x y : ℕ). x * 2 + y) (ih (b / 2) (c / 2)) (differ_assoc (n % 2) (b % 2) (c % 2) (low n) (low b) (low c))
    ∙ ap₂ (λ (x y : ℕ). bit_xor (n / 2) x * 2 + differ (n % 2) y) (sym (xor_shr b c 1)) (sym (odd b c))
    ∙ sym (xor_step n (bit_xor b c)))

-- two pairs, by columns
pub xor_swap : (a b c d : ℕ) → bit_xor (bit_xor a b) (bit_xor c d) ≡ bit_xor (bit_xor a c) (bit_xor b d)
xor_swap a b c d =
    xor_assoc a b (bit_xor c d)
    ∙ ap (bit_xor a) (sym (xor_assoc b c d) ∙ ap (λ (x : ℕ). bit_xor x d) (xor_comm b c) ∙ xor_assoc c b d)
    ∙ sym (xor_assoc a c (bit_xor b d))

-- what is added twice is gone
pub xor_twice : (a b : ℕ) → bit_xor (bit_xor a b) b ≡ a
xor_twice a b = xor_assoc a b b ∙ ap (bit_xor a) (xor_self b) ∙ xor_zero_r a

pub xor_back : (a b : ℕ) → bit_xor b (bit_xor a b) ≡ a
xor_back a b = xor_comm b (bit_xor a b) ∙ xor_twice a b

pub xor_double : (a b : ℕ) → bit_xor a b * 2 ≡ bit_xor (a * 2) (b * 2)
xor_double a b =
    sym (add-zero (bit_xor a b * 2)) ∙ sym (xor_block 1 a b 0 0 (lit< tt) (lit< tt))
    ∙ ap₂ bit_xor (add-zero (a * 2)) (add-zero (b * 2))

-- a bit times a number
pub xor_times : (x y p : ℕ) → x < 2 → y < 2 → bit_xor x y * p ≡ bit_xor (x * p) (y * p)
xor_times zero y p hx hy = ap (λ (k : ℕ). bit_xor k (y * p)) (sym (zero-mul p))
xor_times (suc zero) zero p hx hy = one-mul p ∙ sym (ap₂ bit_xor (one-mul p) (zero-mul p) ∙ xor_zero_r p)
xor_times (suc zero) (suc zero) p hx hy = zero-mul p ∙ sym (ap₂ bit_xor (one-mul p) (one-mul p) ∙ xor_self p)
xor_times (suc zero) (suc (suc y)) p hx hy = absurd (omega arith)
xor_times (suc (suc x)) y p hx hy = absurd (omega arith)
