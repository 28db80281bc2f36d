-- What the program `layout` prints (01, "The description and the frame it cuts"). Assumes nothing.
use Rattle.std.specs.Prelude.{ℕ, suc, not, List, [], ◌∷◌, ◌++◌, ltb, eqb, length, take, drop}
use Rattle.laws.specs.Big.{number_at}
use Rattle.laws.specs.Limits.{longest}
use Rattle.laws.specs.Pick.{pick}
use Rattle.laws.specs.Refuse.{Test, test, refused_with}
use Rattle.line_text.specs.Decimal.{ascii, decimal, number_line}
use Rattle.description.specs.declared.Description.{Description}
use Rattle.places.specs.declared.Part.{Part}
use Rattle.description.specs.Bytes.{described_by}
use Rattle.description.specs.WellFormed.{ill_formed}
use Rattle.description.specs.Answers.{value_length}
use Rattle.places.specs.Parts.{used_by, parts_of, padding_of, bad_capacity}

-- where a part stands, to the end of the line
unfoldable pub place_text : Part → List ℕ
place_text x = ascii " at " ++ (decimal x.at ++ (ascii " length " ++ (decimal x.len ++ ascii "\n")))

-- the line of a part, or of the padding: none where its length is 0
unfoldable pub line_of : List ℕ → Part → List ℕ
line_of name x = pick (eqb x.len 0) [] (name ++ place_text x)

-- the lines of the parts of streams i, i + 1, ..
unfoldable pub part_lines : List ℕ → ℕ → List Part → List ℕ
part_lines name i [] = []
part_lines name i (x ∷ xs) = line_of (name ++ decimal i) x ++ part_lines name (suc i) xs

abbrev pub part_a : List ℕ
part_a = ascii "part A stream "

abbrev pub part_b : List ℕ
part_b = ascii "part B stream "

abbrev pub padding : List ℕ
padding = ascii "padding"

-- the lines of eight parts, four of A and four of B, and of the padding
unfoldable pub lines_of : ℕ → List Part → Part → List ℕ
lines_of capacity parts x =
    number_line (ascii "capacity ") capacity
    ++ (part_lines part_a 0 (take 4 parts) ++ (part_lines part_b 0 (take 4 (drop 4 parts)) ++ line_of padding x))

-- the input: two big-endian bytes of capacity, and a value
abbrev pub capacity_in : List ℕ → ℕ
capacity_in input = number_at 2 input 0

abbrev pub described_in : List ℕ → Description
described_in input = described_by (drop 2 input)

-- the refusals, in the order tried, under MSC mode 0
unfoldable pub tests_for : List ℕ → List Test
tests_for input =
    test (ltb (length input) 2) 1
    ∷ test (ltb longest (length input)) 1
    ∷ test (bad_capacity (capacity_in input)) 1
    ∷ test (not (value_length (length (drop 2 input)))) 5
    ∷ test (ill_formed 0 (described_in input)) 10
    ∷ test (ltb (capacity_in input) (used_by (described_in input))) 12
    ∷ []

unfoldable pub number_for : List ℕ → ℕ
number_for input = refused_with (tests_for input)

-- the text printed
unfoldable pub text_of : List ℕ → List ℕ
text_of input =
    pick (eqb (number_for input) 0)
    (lines_of (capacity_in input) (parts_of (described_in input)) (padding_of (capacity_in input) (described_in input)))
    (number_line (ascii "refused ") (number_for input))
