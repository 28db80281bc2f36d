-- What the calls answer, in 01's terms: a number, and a timestamp or a verdict, which are zero and no where the call refuses ("Numbers given
-- back"). Assumes nothing.
use Rattle.std.specs.Prelude.{ℕ, Bool, false, Result, Ok, Err}
use Rattle.refusal.specs.declared.Refusal.{Refusal}
use Rattle.refusal.specs.Refusal.{number_of}
use Rattle.clock.specs.declared.Stamp.{Stamp}

pub record Stamped : Type 0 where
  pub number : ℕ
  pub stamp : Stamp

pub record Judged : Type 0 where
  pub number : ℕ
  pub yes : Bool

-- all zeros where a call refuses
abbrev pub no_stamp : Stamp
no_stamp = record { utco = 0; seconds = 0; milliseconds = 0 }

abbrev pub stamped_in : Result Stamp Refusal → Stamped
stamped_in (Ok t) = record { number = 0; stamp = t }
stamped_in (Err r) = record { number = number_of r; stamp = no_stamp }

abbrev pub judged_in : Result Bool Refusal → Judged
judged_in (Ok y) = record { number = 0; yes = y }
judged_in (Err r) = record { number = number_of r; yes = false }
