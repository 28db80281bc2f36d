-- A description has four slots. Assumes nothing.
use mathlib.Core.Path.{◌≡◌, refl, sym, ◌∙◌}
use mathlib.Core.List.{List, [], ◌∷◌, map}
use Prim.Native.Nat.{ℕ}
use native.Mathlib.Omega.{arith}
use lib.ListN.{length, length-map, get_or}
use Rattle.description.specs.Bytes.{no_stream}
use Rattle.description.specs.declared.Lengths.{Lengths}

-- a list has as many elements as its image: what owning an array of structs tells of it
pub sized : {X Y : Type 0} (f : X → Y) (l : List X) (n : ℕ) → length (map f l) ≡ n → length l ≡ n
sized f l n e = sym (length-map l f) ∙ e

-- four slots are their elements
pub four : (s : List Lengths) → length s ≡ 4 → s ≡ get_or s 0 no_stream ∷ get_or s 1 no_stream ∷ get_or s 2 no_stream ∷ get_or s 3 no_stream ∷ []
four [] e = absurd (omega arith)
four (a ∷ []) e = absurd (omega arith)
four (a ∷ b ∷ []) e = absurd (omega arith)
four (a ∷ b ∷ c ∷ []) e = absurd (omega arith)
four (a ∷ b ∷ c ∷ d ∷ []) e = refl
four (a ∷ b ∷ c ∷ d ∷ x ∷ s) e = absurd (omega arith)
