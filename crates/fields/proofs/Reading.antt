-- The number at an offset: where it is there and where it is not, as the two parts that it may be cut into, and read byte by byte.
-- Assumes nothing.
use mathlib.Core.Path.{◌≡◌, sym, ap, ap₂, ◌∙◌}
use mathlib.Core.List.{List, ◌++◌}
use Prim.Native.Nat.{ℕ, ◌+◌, ◌*◌, ◌^◌, ◌≤◌, ◌<◌}
use native.Mathlib.Omega.{arith}
use borrow.Author.Tests.{le-leb, lt-leb}
use lib.Arith.{digits_lt}
use lib.ListN.{length, get_or, take, drop, length-drop}
use lib.Pow.{pow-add, pow_mono, pow_pos}
use lib.Seq.{take-add, drop-drop, drop-cons, length-take-le, get_or-take, get_or-drop}
use Rattle.laws.specs.Big.{big_of, number_at}
use Rattle.laws.proofs.Big.{big_append}

module _ (n : ℕ) (s : List ℕ) (at : ℕ) where
  pub number_in : at + n ≤ length s → number_at n s at ≡ big_of (take n (drop at s))
  unfolding number_at
  number_in h = simp (le-leb (at + n) (length s) h)

  pub number_out : length s < at + n → number_at n s at ≡ 0
  unfolding number_at
  number_out h = simp (lt-leb (at + n) (length s) h)

-- m bytes, and n behind them
pub number_parts : (m n : ℕ) (s : List ℕ) (at : ℕ) → at + (m + n) ≤ length s
    → number_at (m + n) s at ≡ number_at m s at * 2 ^ (8 * n) + number_at n s (at + m)
number_parts m n s at h =
    let x = take m (drop at s) in
    let y = take n (drop (at + m) s) in
    let l : length y ≡ n = length-take-le n (drop (at + m) s) (simp length-drop (omega arith)) in
    number_in (m + n) s at h
    ∙ ap big_of (take-add m n (drop at s) ∙ ap (λ (t : List ℕ). x ++ take n t) (drop-drop m at s))
    ∙ big_append x y
    ∙ ap (λ (k : ℕ). big_of x * 2 ^ (8 * k) + big_of y) l
    ∙ ap₂ (λ (a b : ℕ). a * 2 ^ (8 * n) + b) (sym (number_in m s at (omega arith))) (sym (number_in n s (at + m) (omega arith)))

-- ---- byte by byte

pub number_none : (s : List ℕ) (at : ℕ) → at ≤ length s → number_at 0 s at ≡ 0
unfolding big_of
number_none s at h = number_in 0 s at (omega arith)

pub number_byte : (s : List ℕ) (at : ℕ) → at < length s → number_at 1 s at ≡ get_or s at 0
unfolding big_of
number_byte s at h = number_in 1 s at (omega arith) ∙ rw (drop-cons s at 0 h) (omega arith)

pub number_more : (n : ℕ) (s : List ℕ) (at : ℕ) → at + n < length s → number_at n s at * 256 + get_or s (at + n) 0 ≡ number_at (n + 1) s at
number_more n s at h =
    ap (λ (b : ℕ). number_at n s at * 256 + b) (sym (number_byte s (at + n) h)) ∙ sym (number_parts n 1 s at (omega arith))

-- a number of n bytes stays within the bits of n + 1 with a byte more, and within 64 as long as n is below 8
pub bits_more : (n r b : ℕ) → r < 2 ^ (8 * n) → b < 256 → r * 256 + b < 2 ^ (8 * (n + 1))
bits_more n r b h k =
    let e : 8 * (n + 1) ≡ 8 * n + 8 = omega arith in
    rw (e, pow-add 2 (8 * n) 8) (digits_lt h k)

pub bits_room : (n r : ℕ) → n < 8 → r < 2 ^ (8 * n) → r < 2 ^ 56
bits_room n r h k = omega (arith, pow_mono {i = 8 * n} {j = 56} (omega arith))

-- the answer where the number is not there
pub read_out : (n : ℕ) (s : List ℕ) (at : ℕ) → length s < at + n → (0 ≡ number_at n s at) × (0 < 2 ^ (8 * n))
read_out n s at h = (sym (number_out n s at h), pow_pos (8 * n))

-- a byte of a part of the slice
pub part_byte : (k : ℕ) (s : List ℕ) (at i : ℕ) → i < k → get_or (take k (drop at s)) i 0 ≡ get_or s (at + i) 0
part_byte k s at i h = get_or-take k (drop at s) i 0 h ∙ get_or-drop at s i 0
