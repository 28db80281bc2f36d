-- Each promise of this crate settles its call. Assumes nothing.
use Prim.Native.Nat.{ℕ, ◌+◌, ◌≤◌}
use mathlib.Core.List.{List}
use mathlib.Core.Path.{◌≡◌}
use Rattle.std.specs.Prelude.{Option}
use Rattle.laws.specs.Settle.{Settles}
use Rattle.laws.proofs.Settle.{settled}
use Rattle.clock.specs.declared.Stamp.{Stamp}
use Rattle.calendar.specs.declared.Date.{Date}
use Rattle.line_text.specs.Line.{Placed}
use Rattle.line_text.proofs.Room.{placed_once}
use Rattle.stamp_text.specs.Date.{millis_text}
use Rattle.stamp_text.specs.Stamp.{since, time_text}

-- `millis`; an input is what is put, the buffer before the call and the offset, an outcome the offset behind it and the buffer after the call
pub millis_put : Settles (λ (i : ℕ × List ℕ × ℕ) (o : ℕ × List ℕ). (o.0 ≤ i.2 + 4) × Placed 4 i.1 i.2 (millis_text i.0) o.1 o.0)
millis_put i x y p q = placed_once 4 i.2 (i.2 + 4) (millis_text i.0) i.1 x y p q

-- `since` and `time`
pub since_utc : Settles (λ (t : Option Stamp) (r : ℕ). r ≡ since t)
since_utc = settled since

pub time_put : Settles (λ (i : Option Stamp × Date × List ℕ × ℕ) (o : ℕ × List ℕ). (o.0 ≤ i.3 + 69) × Placed 69 i.2 i.3 (time_text i.0 i.1) o.1 o.0)
time_put i x y p q = placed_once 69 i.3 (i.3 + 69) (time_text i.0 i.1) i.2 x y p q
