-- No refusal has number 0, and no two have the same. Assumes nothing.
use Prim.Native.Nat.{ℕ, ◌<◌}
use mathlib.Core.Path.{◌≡◌, refl, sym, ap, ◌∙◌}
use mathlib.Core.List.{List, [], ◌∷◌}
use lib.ListN.{get_or}
use native.Mathlib.Omega.{arith}
use Rattle.refusal.specs.declared.Refusal.{Refusal}
use Rattle.refusal.specs.declared.Refusal.TheVariants.{Size, CutOff, Repeated, Missing, ItemLength, BadValue, FacCrc, SdcCrc, NotServed, IllFormed, StreamLength, OverCapacity, BadSettings, BadUnit, NoRoom, PacketCrc, BadState, NoSuccessor}
use Rattle.refusal.specs.Refusal.{number_of}

pub number_pos : (r : Refusal) → 0 < number_of r
number_pos Size = omega arith
number_pos CutOff = omega arith
number_pos Repeated = omega arith
number_pos Missing = omega arith
number_pos ItemLength = omega arith
number_pos BadValue = omega arith
number_pos FacCrc = omega arith
number_pos SdcCrc = omega arith
number_pos NotServed = omega arith
number_pos IllFormed = omega arith
number_pos StreamLength = omega arith
number_pos OverCapacity = omega arith
number_pos BadSettings = omega arith
number_pos BadUnit = omega arith
number_pos NoRoom = omega arith
number_pos PacketCrc = omega arith
number_pos BadState = omega arith
number_pos NoSuccessor = omega arith

pub number_ne0 : (r : Refusal) → number_of r ≡ 0 → ⊥
number_ne0 r e = let p : 0 < number_of r = number_pos r in absurd (omega arith)

-- the refusals at the places of their numbers
abbrev in_order : List Refusal
in_order =
    Size
    ∷ Size
    ∷ CutOff
    ∷ Repeated
    ∷ Missing
    ∷ ItemLength
    ∷ BadValue
    ∷ FacCrc
    ∷ SdcCrc
    ∷ NotServed
    ∷ IllFormed
    ∷ StreamLength
    ∷ OverCapacity
    ∷ BadSettings
    ∷ BadUnit
    ∷ NoRoom
    ∷ PacketCrc
    ∷ BadState
    ∷ NoSuccessor
    ∷ []

abbrev from_number : ℕ → Refusal
from_number n = get_or in_order n Size

back : (r : Refusal) → from_number (number_of r) ≡ r
back Size = refl
back CutOff = refl
back Repeated = refl
back Missing = refl
back ItemLength = refl
back BadValue = refl
back FacCrc = refl
back SdcCrc = refl
back NotServed = refl
back IllFormed = refl
back StreamLength = refl
back OverCapacity = refl
back BadSettings = refl
back BadUnit = refl
back NoRoom = refl
back PacketCrc = refl
back BadState = refl
back NoSuccessor = refl

pub number_inj : (a b : Refusal) → number_of a ≡ number_of b → a ≡ b
number_inj a b e = sym (back a) ∙ ap from_number e ∙ back b
