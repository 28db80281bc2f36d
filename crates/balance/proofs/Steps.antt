-- A step of the receiver, by whether the packet is accepted. Assumes nothing.
use mathlib.Core.Path.{◌≡◌}
use mathlib.Core.Bool.{true, false}
use Rattle.receiver.specs.declared.Receiver.{Receiver}
use Rattle.receiver.specs.Answer.{Refused}
use Rattle.receiver.specs.Receiver.{step_number, step_for}
use Rattle.receiver.specs.Dropped.{dropped_for, told_in, told_for}
use Rattle.receiver.specs.Run.{Input}
use Rattle.balance.specs.History.{says_at, accepted_at, told_at}

pub step_taken : (r : Receiver) (g : Input) → accepted_at r g ≡ true → told_at r g ≡ told_in r (says_at g)
unfolding step_for dropped_for told_in told_for
step_taken r g e = rw e

pub step_refused : (r : Receiver) (g : Input) → accepted_at r g ≡ false
    → told_at r g ≡ record { answer = Refused (step_number g.p r g.packet g.room); dropped = 0; next = r }
unfolding step_for dropped_for told_for
step_refused r g e = rw e
