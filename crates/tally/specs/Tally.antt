-- What is counted over a recording (01, "Clock and recordings"). Assumes nothing.
use Rattle.std.specs.Prelude.{ℕ, Option, None, Some, ◌+◌, ◌%◌, ◌^◌, Bool, replicate, slice_index, slice_set}
use Rattle.laws.specs.Pick.{pick}
use Rattle.clock.specs.declared.Stamp.{Stamp}
use Rattle.mdi.specs.declared.Answer.{Answer}
use Rattle.tally.specs.declared.Tally.{Tally}

unfoldable pub no_tally : Tally
no_tally = record { packets = 0; numbers = replicate 12 0; breaks = 0; first = None; last = None }

-- the first timestamp that is there
unfoldable pub earlier : Option Stamp → Option Stamp → Option Stamp
earlier None t = t
earlier (Some s) t = Some s

-- one more, in 64 bits
abbrev pub up : ℕ → ℕ
up n = (n + 1) % 2 ^ 64

unfoldable pub more_for : ℕ → Bool → ℕ
more_for n one = pick one (up n) n

-- one packet more: its number is counted (0 to 11), its timestamp is the first where there was none, and the last
unfoldable pub counted_for : Tally → Answer → Bool → Tally
counted_for t a broke = record {
  packets = up t.packets;
  numbers = slice_set t.numbers (a.number % 12) (up (slice_index t.numbers (a.number % 12)));
  breaks = more_for t.breaks broke;
  first = earlier t.first a.content.time;
  last = earlier a.content.time t.last;
}
