-- The receiver's answer in numbers says what the library's says. Assumes nothing.
use Prim.Native.Nat.{ℕ}
use mathlib.Core.Path.{◌≡◌, refl, ap, ◌∙◌}
use mathlib.Core.List.{List}
use Rattle.receiver.specs.declared.Receiver.{Receiver}
use Rattle.receiver.specs.Answer.{Answer, Nothing, Delivered, Refused, Told}
use Rattle.receiver.specs.Receiver.{told}
use Rattle.receiver.specs.Dropped.{told_for, reported, report_for}
use Rattle.host.specs.declared.Received.{Received}
use Rattle.host.specs.Received.{received_by, received_for, SameDropped, said}

pub says_same : (a : Answer) (d : ℕ) (r : Receiver) → said (received_by a d r) ≡ reported a d
unfolding received_by said reported told
says_same Nothing d r = refl
says_same (Delivered i n) d r = refl
says_same (Refused n) d r = refl

dropped_by_law : (a : Answer) (d : ℕ) (r : Receiver) → (received_by a d r).dropped ≡ d
unfolding received_by
dropped_by_law Nothing d r = refl
dropped_by_law (Delivered i n) d r = refl
dropped_by_law (Refused n) d r = refl

pub same_dropped : SameDropped
unfolding received_for
same_dropped p r s room = dropped_by_law (told_for p r s room).answer (told_for p r s room).dropped (told_for p r s room).next

-- an answer in numbers that was made from the step's
module _ (a : Received) (t : Told) (made : a ≡ received_by t.answer t.dropped t.next) (p : ℕ) (r : Receiver) (s : List ℕ) (room : ℕ) where
  pub answer_made : t ≡ told_for p r s room → a ≡ received_for p r s room
  unfolding received_for
  answer_made h = made ∙ ap (λ u. received_by u.answer u.dropped u.next) h

  pub values_made : reported t.answer t.dropped ≡ report_for p r s room → said a ≡ report_for p r s room
  values_made h = ap said made ∙ says_same t.answer t.dropped t.next ∙ h
