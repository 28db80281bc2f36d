-- What the private functions leave, one item at a time; no promise of a public call cites it. Assumes nothing.
use Rattle.std.specs.Prelude.{ℕ, suc, ◌≡◌, ◌<◌, Option, None, Some, List, [], ◌∷◌, eqb, get_or, set}
use Rattle.laws.specs.Pick.{pick}

-- the row of a key; the number of rows where none has it
unfoldable pub row_of : ℕ → List ℕ → ℕ
row_of k [] = 0
row_of k (x ∷ xs) = pick (eqb x k) 0 (suc (row_of k xs))

-- a row of n that is found, by its place among them
abbrev pub IsRow : ℕ → ℕ → Option ℕ → Type 0
IsRow n row None = n ≡ row
IsRow n row (Some i) = (i ≡ row) × (i < n)

-- a number noted in row i, where nothing was noted before
unfoldable pub noted_at : ℕ → ℕ → List ℕ → List ℕ → List ℕ
noted_at i v starts l = pick (eqb (get_or starts i 0) 0) (set l i v) l
