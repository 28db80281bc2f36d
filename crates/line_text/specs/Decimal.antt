-- Words and numbers as bytes, for what the programs `layout` and `inspect` print (01, "The description and the frame it cuts"). Assumes nothing.
use Prim.Native.Char.{code}
use Rattle.std.specs.Prelude.{ℕ, zero, suc, ◌+◌, ◌/◌, ◌%◌, List, [], ◌∷◌, ◌++◌, ltb}
use Prim.Native.String as Text
use Rattle.laws.specs.Pick.{pick}

-- a text as bytes
abbrev pub ascii : Text.String → List ℕ
ascii Text.[] = []
ascii (Text.◌∷◌ c s) = code c ∷ ascii s

-- a number in decimal: its last digit stands behind those of its tenth. The first argument bounds the steps: any number above n is enough
unfoldable pub digits_of : ℕ → ℕ → List ℕ
digits_of zero n = []
digits_of (suc k) n = pick (ltb n 10) ((48 + n) ∷ []) (digits_of k (n / 10) ++ ((48 + n % 10) ∷ []))

unfoldable pub decimal : ℕ → List ℕ
decimal n = digits_of (suc n) n

-- a word, a number and the end of the line
abbrev pub number_line : List ℕ → ℕ → List ℕ
number_line word n = (word ++ decimal n) ++ ascii "\n"

-- a word and a number, twice, and the end of the line
abbrev pub pair_line : List ℕ → ℕ → List ℕ → ℕ → List ℕ
pair_line first n second m = (first ++ decimal n) ++ number_line second m
