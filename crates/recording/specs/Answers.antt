-- What the calls of a recording give back, in 01's terms ("Numbers given back"): number, place and values, and what an answer of the code says
-- in them. Assumes nothing.
use Rattle.std.specs.Prelude.{ℕ, Result, Ok, Err, Option, Some, None}
use Rattle.refusal.specs.declared.Refusal.{Refusal}
use Rattle.refusal.specs.declared.Refused as refused
use Rattle.refusal.specs.Refusal.{number_of}
use Rattle.recording.specs.declared.Entry as entry

-- of opening: `first` is the offset of the first entry
pub record Opened : Type 0 where
  pub number : ℕ
  pub place : ℕ
  pub first : ℕ

-- what stands at an offset: an entry, whose packet has so many bytes from `start` on, and behind which the next begins; no entry, since the
-- recording ends here; or it is refused
pub data Step : Type 0 where
  Entry : (start len next : ℕ) → Step
  End : Step
  Refused : (number place : ℕ) → Step

-- of writing: `length` is that of the recording after the call, where the next entry goes
pub record Grown : Type 0 where
  pub number : ℕ
  pub length : ℕ

abbrev pub opened_in : Result ℕ Refusal → Opened
opened_in (Ok n) = record { number = 0; place = 0; first = n }
opened_in (Err r) = record { number = number_of r; place = 0; first = 0 }

abbrev pub step_in : Result (Option entry.Entry) refused.Refused → Step
step_in (Ok (Some e)) = Entry e.start e.length e.next
step_in (Ok None) = End
step_in (Err r) = Refused (number_of r.why) r.place

abbrev pub grown_in : Result ℕ Refusal → Grown
grown_in (Ok n) = record { number = 0; length = n }
grown_in (Err r) = record { number = number_of r; length = 0 }
