-- Lines, written one behind the other. Assumes nothing.
use mathlib.Core.Path.{◌≡◌, sym, ap, ◌∙◌, subst}
use mathlib.Core.List.{List, [], ◌∷◌, ◌++◌, append_assoc, append-nil}
use Prim.Native.Nat.{ℕ, zero, suc, ◌+◌, ◌≤◌, ◌<◌}
use native.Mathlib.Nat.{add-zero, not-suc-le-zero, le_of_suc-le-suc}
use native.Mathlib.Numerals.{add-one}
use native.Mathlib.Omega.{arith}
use borrow.Author.Tests.{eq-eqb, ne_eqb}
use lib.ListN.{length, get_or, take}
use Rattle.moves.specs.Moves.{Puts}
use Rattle.moves.proofs.Pieces.{puts_none, puts_then, puts_same}
use Rattle.places.specs.declared.Part.{Part}
use Rattle.places.specs.Parts.{no_part}
use Rattle.line_text.specs.Decimal.{decimal}
use Rattle.layout_text.specs.Text.{place_text, line_of, part_lines}

-- the line of a part with no byte, and of one with some
pub line_none : (name : List ℕ) (x : Part) (d : List ℕ) (at : ℕ) → x.len ≡ 0 → Puts d at (line_of name x) d at
unfolding line_of
line_none name x d at h = rw (eq-eqb x.len 0 h) (puts_none d at)

pub line_some : (name : List ℕ) (x : Part) (d e : List ℕ) (at n : ℕ) → (x.len ≡ 0 → ⊥) → Puts d at (name ++ place_text x) e n → Puts d at (line_of name x) e n
unfolding line_of
line_some name x d e at n h p = rw (ne_eqb x.len 0 h) p

-- one line more
lines_more : (name : List ℕ) (j : ℕ) (xs : List Part) (i : ℕ) → i < length xs
    → part_lines name j (take i xs) ++ line_of (name ++ decimal (j + i)) (get_or xs i no_part) ≡ part_lines name j (take (suc i) xs)
unfolding part_lines
lines_more name j [] i h = absurd (not-suc-le-zero h)
lines_more name j (x ∷ xs) zero h = rw add-zero (sym (append-nil (line_of (name ++ decimal j) x)))
lines_more name j (x ∷ xs) (suc i) h =
    let k : j + suc i ≡ suc j + i = omega arith in
    append_assoc (line_of (name ++ decimal j) x) (part_lines name (suc j) (take i xs)) (line_of (name ++ decimal (j + suc i)) (get_or xs i no_part))
    ∙ ap (λ (s : List ℕ). line_of (name ++ decimal j) x ++ s) (rw k (lines_more name (suc j) xs i (le_of_suc-le-suc h)))

pub parts_none : (name : List ℕ) (d : List ℕ) (at : ℕ) → Puts d at (part_lines name 0 []) d at
unfolding part_lines
parts_none name d at = puts_none d at

pub parts_more : (name : List ℕ) (ps : List Part) (i : ℕ) (d e f : List ℕ) (at n m : ℕ) → i < length ps → n ≤ length d
    → Puts d at (part_lines name 0 (take i ps)) e n → Puts e n (line_of (name ++ decimal i) (get_or ps i no_part)) f m
    → Puts d at (part_lines name 0 (take (i + 1) ps)) f m
parts_more name ps i d e f at n m h l p q =
    let z : 0 + i ≡ i = omega arith in
    let w : part_lines name 0 (take i ps) ++ line_of (name ++ decimal i) (get_or ps i no_part) ≡ part_lines name 0 (take (i + 1) ps) =
    rw add-one (subst (λ (j : ℕ). part_lines name 0 (take i ps) ++ line_of (name ++ decimal j) (get_or ps i no_part) ≡ part_lines name 0 (take (suc i) ps)) z
    (lines_more name 0 ps i h)) in
    puts_same w (puts_then l p q)
