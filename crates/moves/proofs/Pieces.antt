-- What `put` answers and leaves, and pieces written one behind the other. Assumes nothing.
use mathlib.Core.Path.{◌≡◌, refl, sym, ap₂, ◌∙◌, subst}
use mathlib.Core.List.{List, [], ◌++◌}
use mathlib.Core.Bool.{Bool, true, false}
use lib.Dec.{leb}
use Prim.Native.Nat.{ℕ, ◌+◌, ◌≤◌}
use native.Mathlib.Omega.{arith}
use borrow.Author.Tests.{le-leb}
use lib.ListN.{length, length-append}
use Rattle.laws.proofs.Written.{written_none, write_next}
use Rattle.moves.specs.Moves.{placed, behind, Puts}

-- the answer, by the test
pub end_in : (d : List ℕ) (at : ℕ) (xs : List ℕ) (room : Bool) → room ≡ leb (at + length xs) (length d) → room ≡ true → at + length xs ≡ behind d at xs
unfolding behind
end_in d at xs room e t = rw (sym e ∙ t) refl

pub end_out : (d : List ℕ) (at : ℕ) (xs : List ℕ) (room : Bool) → room ≡ leb (at + length xs) (length d) → room ≡ false → at ≡ behind d at xs
unfolding behind
end_out d at xs room e t = rw (sym e ∙ t) refl

-- one piece that fits
pub puts : (src d e : List ℕ) (at n : ℕ) → at + length src ≤ length d → n ≡ behind d at src → e ≡ placed d at src → Puts d at src e n
unfolding behind placed
puts src d e at n h p q =
    let f = le-leb (at + length src) (length d) h in
    record { text = rw f at q; end = rw f at p }

-- and one behind it
pub puts_then : {d : List ℕ} {at : ℕ} {xs e : List ℕ} {n : ℕ} {ys f : List ℕ} {m : ℕ} → n ≤ length d → Puts d at xs e n → Puts e n ys f m
    → Puts d at (xs ++ ys) f m
puts_then {d} {at} {xs} {e} {n} {ys} {f} {m} h p q =
    let pe = p.end in
    let qe = q.end in
    let l = length-append xs ys in
    record {
      text = q.text ∙ write_next d e at xs ys n p.end h p.text;
      end = omega arith;
    }

-- nothing written
pub puts_none : (d : List ℕ) (at : ℕ) → Puts d at [] d at
puts_none d at = record { text = sym (written_none d at); end = omega arith }

-- the same bytes, said otherwise
pub puts_same : {d : List ℕ} {at : ℕ} {xs ys e : List ℕ} {n : ℕ} → xs ≡ ys → Puts d at xs e n → Puts d at ys e n
puts_same {d} {at} {xs} {ys} {e} {n} q p = subst (λ (s : List ℕ). Puts d at s e n) q p

-- one outcome only: the offset behind, and the buffer after the call
pub puts_once : (d : List ℕ) (at : ℕ) (xs : List ℕ) (x y : ℕ × List ℕ) → Puts d at xs x.1 x.0 → Puts d at xs y.1 y.0 → x ≡ y
puts_once d at xs x y p q = ap₂ (λ n s. (n, s)) (p.end ∙ sym q.end) (p.text ∙ sym q.text)
