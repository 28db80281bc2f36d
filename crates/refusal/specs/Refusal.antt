-- 01's number of each refusal ("Numbers given back"), and what an answer says in 01's terms: number 0 where the call did what it is for.
-- Assumes nothing.
use Rattle.std.specs.Prelude.{ℕ, Result, Ok, Err}
use Rattle.refusal.specs.declared.Refusal.{Refusal}
use Rattle.refusal.specs.declared.Refusal.TheVariants.{Size, CutOff, Repeated, Missing, ItemLength, BadValue, FacCrc, SdcCrc, NotServed, IllFormed, StreamLength, OverCapacity, BadSettings, BadUnit, NoRoom, PacketCrc, BadState, NoSuccessor}
use Rattle.refusal.specs.declared.Refused.{Refused}

abbrev pub number_of : Refusal → ℕ
number_of Size = 1
number_of CutOff = 2
number_of Repeated = 3
number_of Missing = 4
number_of ItemLength = 5
number_of BadValue = 6
number_of FacCrc = 7
number_of SdcCrc = 8
number_of NotServed = 9
number_of IllFormed = 10
number_of StreamLength = 11
number_of OverCapacity = 12
number_of BadSettings = 13
number_of BadUnit = 14
number_of NoRoom = 15
number_of PacketCrc = 16
number_of BadState = 17
number_of NoSuccessor = 18

-- the number of an answer
abbrev pub number_in : {A : Type 0} → Result A Refusal → ℕ
number_in (Ok x) = 0
number_in (Err r) = number_of r

-- number and place of an answer whose refusals have a place
abbrev pub placed_number_in : {A : Type 0} → Result A Refused → ℕ
placed_number_in (Ok x) = 0
placed_number_in (Err r) = number_of r.why

abbrev pub place_in : {A : Type 0} → Result A Refused → ℕ
place_in (Ok x) = 0
place_in (Err r) = r.place
