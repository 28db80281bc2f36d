-- What a step answers, its cases by 01's numbers ("Numbers given back"), the bytes dropped (02, E5) and the record after it. Assumes nothing.
use Rattle.std.specs.Prelude.{ℕ, Result, Ok, Err, Option, None, Some}
use Rattle.refusal.specs.declared.Refusal.{Refusal}
use Rattle.refusal.specs.Refusal.{number_of}
use Rattle.receiver.specs.declared.Receiver.{Receiver}
use Rattle.receiver.specs.declared.Delivered as unit
use Rattle.receiver.specs.declared.Told as told
use Rattle.receiver.specs.declared.Heard as heard

pub data Answer : Type 0 where
  Nothing : Answer
  -- id and length of a unit that is complete
  Delivered : ℕ → ℕ → Answer
  Refused : ℕ → Answer

pub record Told : Type 0 where
  pub answer : Answer
  pub dropped : ℕ
  pub next : Receiver

pub record Heard : Type 0 where
  pub answer : Answer
  pub dropped : ℕ

-- what the calls give back, in these
abbrev pub answer_of : Result (Option unit.Delivered) Refusal → Answer
answer_of (Ok None) = Nothing
answer_of (Ok (Some d)) = Delivered d.id d.length
answer_of (Err r) = Refused (number_of r)

abbrev pub told_of : told.Told → Told
told_of t = record { answer = answer_of t.answer; dropped = t.dropped; next = t.next }

abbrev pub heard_of : heard.Heard → Heard
heard_of t = record { answer = answer_of t.answer; dropped = t.dropped }
