-- The line that the program `inspect` prints at a break in the succession (01, "Clock and recordings"). Assumes nothing.
use Rattle.std.specs.Prelude.{ℕ, Option, None, Some, List, [], ◌++◌}
use Rattle.laws.specs.Pick.{pick}
use Rattle.line_text.specs.Decimal.{ascii, decimal}
use Rattle.stamp_text.specs.Date.{millis_text}
use Rattle.clock.specs.declared.Stamp.{Stamp}
use Rattle.record.specs.declared.Record.{Record}
use Rattle.record.specs.Succession.{follows_for}

-- a timestamp as it stands in the packet
unfoldable pub raw_stamp_text : Stamp → List ℕ
raw_stamp_text s = ascii " seconds " ++ (decimal s.seconds ++ (millis_text s.milliseconds ++ (ascii " utco " ++ decimal s.utco)))

unfoldable pub raw_text : Option Stamp → List ℕ
raw_text None = ascii " no timestamp"
raw_text (Some s) = raw_stamp_text s

unfoldable pub count_text : List ℕ → ℕ → Option Stamp → List ℕ
count_text word n t = (word ++ decimal n) ++ raw_text t

-- nothing where the second packet follows the first
unfoldable pub break_text : Record → Record → List ℕ
break_text x y =
    pick (follows_for x y).yes []
    (count_text (ascii "break: count ") x.count x.time ++ (count_text (ascii ", then count ") y.count y.time ++ ascii "\n"))
