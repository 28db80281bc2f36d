-- The ways through the code of the summary, in its own words. Assumes nothing.
use Prim.Native.Nat.{ℕ, zero, suc, ◌+◌, ◌≤◌}
use mathlib.Core.List.{List, [], ◌∷◌, ◌++◌, append_assoc, append-nil}
use mathlib.Core.Path.{◌≡◌, refl, sym, ap, ◌∙◌}
use native.Mathlib.Nat.{add-zero}
use native.Mathlib.Numerals.{add-one}
use native.Mathlib.Omega.{arith}
use borrow.Author.Tests.{eq-eqb, ne_eqb}
use lib.ListN.{length, get_or, take, drop}
use lib.Seq.{get_or-drop}
use Rattle.moves.specs.Moves.{Puts}
use Rattle.moves.proofs.Pieces.{puts_none, puts_then, puts_same}
use Rattle.line_text.specs.Decimal.{ascii, decimal}
use Rattle.summary_text.specs.Summary.{times_text, numbers_text}

pub times_some : {d e : List ℕ} {at n : ℕ} (k m : ℕ) → (m ≡ 0 → ⊥) → Puts d at (ascii "refused " ++ (decimal k ++ (ascii ": " ++ (decimal m ++ ascii "\n")))) e n
    → Puts d at (times_text k m) e n
unfolding times_text
times_some k m h p = rw (ne_eqb m 0 h) p

pub times_none : (d : List ℕ) (at k m : ℕ) → m ≡ 0 → Puts d at (times_text k m) d at
unfolding times_text
times_none d at k m h = rw (eq-eqb m 0 h) (puts_none d at)

-- one number more: behind the end of the list stands 0, which has no line
numbers_more : (j : ℕ) (ns : List ℕ) (i : ℕ) → numbers_text j (take i ns) ++ times_text (j + i) (get_or ns i 0) ≡ numbers_text j (take (suc i) ns)
unfolding numbers_text times_text
numbers_more j [] zero = refl
numbers_more j [] (suc i) = refl
numbers_more j (n ∷ ns) zero = rw add-zero (sym (append-nil (times_text j n)))
numbers_more j (n ∷ ns) (suc i) =
    let k : j + suc i ≡ suc j + i = omega arith in
    append_assoc (times_text j n) (numbers_text (suc j) (take i ns)) (times_text (j + suc i) (get_or ns i 0))
    ∙ ap (λ (s : List ℕ). times_text j n ++ s) (rw k (numbers_more (suc j) ns i))

pub numbers_none : (d : List ℕ) (at j : ℕ) → Puts d at (numbers_text j []) d at
unfolding numbers_text
numbers_none d at j = puts_none d at

pub numbers_next : (ns : List ℕ) (i : ℕ) (d e f : List ℕ) (at n m : ℕ) → n ≤ length d → Puts d at (numbers_text 1 (take i (drop 1 ns))) e n
    → Puts e n (times_text (1 + i) (get_or ns (1 + i) 0)) f m → Puts d at (numbers_text 1 (take (i + 1) (drop 1 ns))) f m
numbers_next ns i d e f at n m l p q =
    let g = get_or-drop 1 ns i 0 in
    puts_same (rw (add-one, ← g) (numbers_more 1 (drop 1 ns) i)) (puts_then l p q)
