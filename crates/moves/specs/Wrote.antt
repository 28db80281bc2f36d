-- The answer of every call that writes (01, "Numbers given back": a refusal writes nothing). Assumes nothing.
use Rattle.std.specs.Prelude.{ℕ, Result, Ok, Err, eqb}
use Rattle.laws.specs.Pick.{pick}
use Rattle.refusal.specs.declared.Refusal.{Refusal}
use Rattle.refusal.specs.Refusal.{number_of}

-- 01's number, and how many bytes of the output are written, none where the call refuses
pub record Wrote : Type 0 where
  pub number : ℕ
  pub length : ℕ

-- the number, and so many bytes written where it is 0
abbrev pub wrote_of : ℕ → ℕ → Wrote
wrote_of number size = record { number = number; length = pick (eqb number 0) size 0 }

-- what such an answer says: number and bytes written
abbrev pub wrote_in : Result ℕ Refusal → Wrote
wrote_in (Ok n) = record { number = 0; length = n }
wrote_in (Err r) = record { number = number_of r; length = 0 }
