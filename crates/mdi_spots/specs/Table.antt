-- The table of items (01, "MDI packet"), row by row in its order: the name, whether it must be there, and which lengths in bits it may have.
-- Refusals 4 and 5, over the list of a packet's items. Assumes nothing.
use Rattle.std.specs.Prelude.{ℕ, ◌%◌, Bool, true, false, ◌&&◌, ◌||◌, not, List, [], ◌∷◌, map, leb, eqb, get_or}
use Rattle.items.specs.Items.{Item, Found, none, some, find}
use Rattle.mdi_spots.specs.Names.{ptr, dlfc, fac, sdc, sdci, robm, str0, str1, str2, str3, tist}

-- ---- lengths in bits

abbrev pub exactly : ℕ → ℕ → Bool
exactly n bits = eqb bits n

abbrev pub whole_bytes : ℕ → Bool
whole_bytes bits = eqb (bits % 8) 0

-- H: 0, or 24 to 8,216 and whole bytes
abbrev pub sdc_bits : ℕ → Bool
sdc_bits bits = eqb bits 0 || (leb 24 bits && leb bits 8216 && whole_bytes bits)

-- one to four streams
abbrev pub sdci_bits : ℕ → Bool
sdci_bits bits = eqb bits 32 || eqb bits 56 || eqb bits 80 || eqb bits 104

-- ---- the table

pub record Row : Type 0 where
  pub name : List ℕ
  pub required : Bool
  pub allowed : ℕ → Bool

abbrev pub row : List ℕ → Bool → (ℕ → Bool) → Row
row name required allowed = record { name = name; required = required; allowed = allowed }

abbrev pub table : List Row
table =
    row ptr true (exactly 64)
    ∷ row dlfc true (exactly 32)
    ∷ row fac true (exactly 72)
    ∷ row sdc false sdc_bits
    ∷ row sdci true sdci_bits
    ∷ row robm true (exactly 8)
    ∷ row str0 false whole_bytes
    ∷ row str1 false whole_bytes
    ∷ row str2 false whole_bytes
    ∷ row str3 false whole_bytes
    ∷ row tist false (exactly 64)
    ∷ []

-- a test holds of some row
abbrev pub any_row : (Row → Bool) → List Row → Bool
any_row f [] = false
any_row f (r ∷ rs) = f r || any_row f rs

-- the names, and the name of row k
abbrev pub names_of : List Row → List (List ℕ)
names_of rs = map (λ r. r.name) rs

abbrev pub name_of : ℕ → List ℕ
name_of k = get_or (names_of table) k []

-- ---- conditions on one item

unfoldable pub absent : Found → Bool
absent none = true
absent (some i) = false

-- there, and of a length that is not allowed
unfoldable pub wrong : (ℕ → Bool) → Found → Bool
wrong ok none = false
wrong ok (some i) = not (ok i.bits)

-- there, and with a value that is not allowed
unfoldable pub ill : (List ℕ → Bool) → Found → Bool
ill ok none = false
ill ok (some i) = not (ok i.value)

-- ---- 4: a required item is missing
unfoldable pub missing : List Item → Bool
missing is = any_row (λ r. r.required && absent (find r.name is)) table

-- ---- 5: a known item has a length that is not in the table
unfoldable pub bad_length : List Item → Bool
bad_length is = any_row (λ r. wrong r.allowed (find r.name is)) table
