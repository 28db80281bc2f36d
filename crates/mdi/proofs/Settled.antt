-- Each promise settles its call: two outcomes that meet it for the same input are equal (01, "Acceptance of the promises"). An input is the
-- packet, and for the latter the stream's number. Assumes nothing.
use Prim.Native.Nat.{ℕ}
use mathlib.Core.Path.{◌≡◌, refl, ap}
use mathlib.Core.List.{List}
use Rattle.laws.specs.Settle.{Settles}
use Rattle.laws.proofs.Settle.{settled}
use Rattle.std.specs.Prelude.{Result}
use Rattle.record.specs.declared.Record.{Record}
use Rattle.refusal.specs.declared.Refused.{Refused}
use Rattle.refusal.proofs.Placed.{TellsPlace, settled_placed}
use Rattle.mdi.specs.declared.Answer.{Answer}
use Rattle.mdi.specs.Reading.{read_in, read_for, stream_for}

read_tells : TellsPlace {A = Record} {V = Answer} read_in
read_tells =
    record { number = λ a. a.number; place = λ a. a.place; of_ok = λ r. refl; of_err = λ r. refl; place_of_err = λ r. refl; values = λ a b e. ap (λ (x : Answer). x.content) e }

pub read : Settles (λ (p : List ℕ) (r : Result Record Refused). read_in r ≡ read_for p)
read = settled_placed read_tells read_for

pub stream : Settles (λ (i : List ℕ × ℕ) (r : List ℕ). r ≡ stream_for i.0 i.1)
stream = settled (λ i. stream_for i.0 i.1)
