-- What the hand-out says settles its answer. Assumes nothing.
use mathlib.Core.Path.{refl, ap}
use Rattle.refusal.proofs.Told.{Tells}
use Rattle.hand.specs.declared.Handed as declared
use Rattle.hand.specs.Hand.{Handed, handed_in}

pub handed_tells : Tells {A = declared.Handed} {V = Handed} handed_in
handed_tells =
    record {
      number = λ h. h.number;
      of_ok = λ h. refl;
      of_err = λ r. refl;
      values = λ a b e. ap (λ (h : Handed). record { packets = h.packets; spares = h.spares; filler = h.filler; turn = h.turn }) e;
    }
