-- The byte step: eight bits at once, by the bits 10 and 18 places before, are eight steps of the register. Assumes nothing.
use mathlib.Core.Path.{◌≡◌, sym, ap, ap₂, ◌∙◌}
use Prim.Native.Nat.{ℕ, ◌+◌, ◌*◌, ◌/◌, ◌%◌, ◌^◌, ◌<◌}
use native.Mathlib.Nat.{mod-lt}
use native.Mathlib.Omega.{arith}
use lib.Bits.{bit_xor, xor_mod}
use lib.Dec.{lit<}
use Rattle.laws.proofs.Table.{below}
use Rattle.dispersal.specs.Dispersal.{push, next}

-- the nine bits of a register, and the nine that follow them
abbrev window : ℕ → ℕ
window e = e * 512 + push (next e)

-- the eight bits that follow b, each the sum of those 10 and 18 places before it
abbrev eight : ℕ → ℕ
eight b = bit_xor (b / 4) (b / 1024) % 256

-- the one test of the byte step: antt computes it for each of the 512 registers
one_byte : (e : ℕ) → e < 512 → (window e * 256 + eight (window e)) % 2 ^ 18 ≡ window (next e)
unfolding next push
one_byte = below (λ e. (window e * 256 + eight (window e)) % 2 ^ 18) (λ e. window (next e)) 512 tt

-- bits beyond the low eighteen do not matter
eight_low : (b : ℕ) → eight b ≡ eight (b % 2 ^ 18)
eight_low b =
    let w = b % 2 ^ 18 in
    let p : b / 4 % 256 ≡ w / 4 % 256 = omega arith in
    let q : b / 1024 % 256 ≡ w / 1024 % 256 = omega arith in
    xor_mod (b / 4) (b / 1024) 8 ∙ ap₂ bit_xor p q ∙ sym (xor_mod (w / 4) (w / 1024) 8)

shifted : (b x : ℕ) → (b * 256 % 2 ^ 32 + x) % 2 ^ 18 ≡ (b % 2 ^ 18 * 256 + x) % 2 ^ 18
shifted b x = omega arith

push_lt : (r : ℕ) → push r < 512
unfolding push
push_lt r = omega arith

-- what stands in the low eighteen bits of q, by its two halves
low_half : (q r s : ℕ) → s < 512 → q % 2 ^ 18 ≡ r * 512 + s → q % 512 ≡ s
low_half q r s h e = omega arith

high_half : (q r s : ℕ) → r < 512 → s < 512 → q % 2 ^ 18 ≡ r * 512 + s → q / 512 % 512 ≡ r
high_half q r s g h e = omega arith

next_lt : (r : ℕ) → next r < 512
unfolding next
next_lt r = push_lt _

-- b holds a register in its low nine bits and above it the nine bits before; so does what the step makes of it, eight bits later
module _ (b : ℕ) (above : b % 512 ≡ push (next (b / 512 % 512))) where
  abbrev before : ℕ
  before = b / 512 % 512

  held : b % 2 ^ 18 ≡ window before
  held =
      let halves : b % 2 ^ 18 ≡ before * 512 + b % 512 = omega arith in
      halves ∙ ap (λ (r : ℕ). before * 512 + r) above

  moved : (b * 256 % 2 ^ 32 + eight b) % 2 ^ 18 ≡ window (next before)
  moved =
      ap (λ (x : ℕ). (b * 256 % 2 ^ 32 + x) % 2 ^ 18) (eight_low b)
      ∙ shifted b (eight (b % 2 ^ 18))
      ∙ ap (λ (w : ℕ). (w * 256 + eight w) % 2 ^ 18) held
      ∙ one_byte before (mod-lt (b / 512) (lit< tt))

  pub stepped : (q : ℕ) → q ≡ b * 256 % 2 ^ 32 + eight b → (q % 512 ≡ next (b % 512)) × (q % 512 ≡ push (next (q / 512 % 512)))
  unfolding next
  stepped q e =
      let m : q % 2 ^ 18 ≡ window (next before) = ap (λ (x : ℕ). x % 2 ^ 18) e ∙ moved in
      let l : q % 512 ≡ push (next (next before)) = low_half q (next before) (push (next (next before))) (push_lt _) m in
      let u : q / 512 % 512 ≡ next before = high_half q (next before) (push (next (next before))) (next_lt before) (push_lt _) m in
      (l ∙ sym (ap next above), l ∙ sym (ap (λ (r : ℕ). push (next r)) u))
