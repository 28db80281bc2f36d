-- What the calls above take out of an answer, in 01's terms. Assumes nothing.
use Rattle.std.proofs.Common.{◌≡◌, ℕ, Bool, false, Result, Ok, Err, refl, ap, ap₂, eqb, not, sym, ne_eqb, ◌∙◌}
use Rattle.std.specs.Result.{is_err, result_eq, result_unwrap_or, ResultUnwrapsOrElse}
use Rattle.refusal.specs.contracts.RefusalPartialEq.TheImpl as refusals
use Rattle.refusal.specs.declared.Refusal.TheVariants.{Size, CutOff, Repeated, Missing, ItemLength, BadValue, FacCrc, SdcCrc, NotServed, IllFormed, StreamLength, OverCapacity, BadSettings, BadUnit, NoRoom, PacketCrc, BadState, NoSuccessor}
use Rattle.refusal.specs.Refusal.{number_of, number_in}
use Rattle.refusal.proofs.Numbers.{number_ne0}
use Rattle.clock.specs.contracts.StampPartialEq.TheImpl as stamps
use Rattle.refusal.specs.declared.Refusal.{Refusal}
use Rattle.clock.specs.contracts.StampDefault.TheImpl as zeros
use Rattle.clock.specs.declared.Stamp.{Stamp}
use Rattle.clock.specs.Answers.{stamped_in, judged_in}

-- a refused verdict is no
pub yes_of : (o : Result Bool Refusal) → result_unwrap_or o false ≡ (judged_in o).yes
yes_of (Ok y) = refl
yes_of (Err r) = refl

-- a refused timestamp is zeros
pub stamp_of : (o : Result Stamp Refusal) (t : Stamp) → ResultUnwrapsOrElse o zeros.is_default-value.it t → t ≡ (stamped_in o).stamp
stamp_of (Ok s) t e = e
stamp_of (Err r) t e =
    let k : (t.utco ≡ 0) × ((t.seconds ≡ 0) × (t.milliseconds ≡ 0)) = e in
    ap (λ (u : ℕ). record { utco = u; seconds = t.seconds; milliseconds = t.milliseconds }) k.0
    ∙ ap₂ (λ (s m : ℕ). record { utco = 0; seconds = s; milliseconds = m }) k.1.0 k.1.1

six_alone : (r : Refusal) → refusals.eq-value.it r BadValue ≡ eqb (number_of r) 6
six_alone Size = refl
six_alone CutOff = refl
six_alone Repeated = refl
six_alone Missing = refl
six_alone ItemLength = refl
six_alone BadValue = refl
six_alone FacCrc = refl
six_alone SdcCrc = refl
six_alone NotServed = refl
six_alone IllFormed = refl
six_alone StreamLength = refl
six_alone OverCapacity = refl
six_alone BadSettings = refl
six_alone BadUnit = refl
six_alone NoRoom = refl
six_alone PacketCrc = refl
six_alone BadState = refl
six_alone NoSuccessor = refl

-- refused with 6
pub six_of : (o : Result Stamp Refusal) → result_eq stamps.eq-value.it refusals.eq-value.it o (Err BadValue) ≡ eqb (stamped_in o).number 6
six_of (Ok t) = refl
six_of (Err r) = six_alone r

-- refused at all
pub wrong_of : {A : Type 0} (o : Result A Refusal) → is_err o ≡ not (eqb (number_in o) 0)
wrong_of (Ok x) = refl
wrong_of (Err r) = ap not (sym (ne_eqb (number_of r) 0 (number_ne0 r)))
