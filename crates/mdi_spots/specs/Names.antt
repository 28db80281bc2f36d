-- The names of the items of an MDI packet, and of its protocol (01, "MDI packet", the table; 002, clause 5) as bytes. Assumes nothing.
use Rattle.std.specs.Prelude.{ℕ, List, [], ◌∷◌}

-- *ptr
abbrev pub ptr : List ℕ
ptr = 42 ∷ 112 ∷ 116 ∷ 114 ∷ []

-- dlfc
abbrev pub dlfc : List ℕ
dlfc = 100 ∷ 108 ∷ 102 ∷ 99 ∷ []

-- fac_
abbrev pub fac : List ℕ
fac = 102 ∷ 97 ∷ 99 ∷ 95 ∷ []

-- sdc_
abbrev pub sdc : List ℕ
sdc = 115 ∷ 100 ∷ 99 ∷ 95 ∷ []

-- sdci
abbrev pub sdci : List ℕ
sdci = 115 ∷ 100 ∷ 99 ∷ 105 ∷ []

-- robm
abbrev pub robm : List ℕ
robm = 114 ∷ 111 ∷ 98 ∷ 109 ∷ []

-- str0, str1, str2, str3
abbrev pub str0 : List ℕ
str0 = 115 ∷ 116 ∷ 114 ∷ 48 ∷ []

abbrev pub str1 : List ℕ
str1 = 115 ∷ 116 ∷ 114 ∷ 49 ∷ []

abbrev pub str2 : List ℕ
str2 = 115 ∷ 116 ∷ 114 ∷ 50 ∷ []

abbrev pub str3 : List ℕ
str3 = 115 ∷ 116 ∷ 114 ∷ 51 ∷ []

-- tist
abbrev pub tist : List ℕ
tist = 116 ∷ 105 ∷ 115 ∷ 116 ∷ []

-- DMDI: the protocol in the value of `*ptr`
abbrev pub letters : List ℕ
letters = 68 ∷ 77 ∷ 68 ∷ 73 ∷ []
