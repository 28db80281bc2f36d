-- The summary that the program `inspect` prints at the end of the walk (01, "Clock and recordings"). Assumes nothing.
use Rattle.std.specs.Prelude.{ℕ, Option, suc, List, [], ◌∷◌, ◌++◌, eqb, get_or, take, drop}
use Rattle.laws.specs.Pick.{pick}
use Rattle.clock.specs.declared.Stamp.{Stamp}
use Rattle.moves.specs.Moves.{Puts}
use Rattle.line_text.specs.Decimal.{ascii, decimal, number_line}
use Rattle.stamp_text.specs.Stamp.{since, time_text}
use Rattle.calendar.specs.Calendar.{DateOf}
use Rattle.calendar.specs.declared.Date.{Date}
use Rattle.tally.specs.declared.Tally.{Tally}

-- how many packets were refused with a number, where some were
unfoldable pub times_text : ℕ → ℕ → List ℕ
times_text number times = pick (eqb times 0) [] (ascii "refused " ++ (decimal number ++ (ascii ": " ++ (decimal times ++ ascii "\n"))))

-- how many packets were refused with number, number + 1, ..
unfoldable pub numbers_text : ℕ → List ℕ → List ℕ
numbers_text number [] = []
numbers_text number (n ∷ ns) = times_text number n ++ numbers_text (suc number) ns

unfoldable pub when_text : List ℕ → Option Stamp → Date → List ℕ
when_text word t d = word ++ (time_text t d ++ ascii "\n")

unfoldable pub whens_text : Option Stamp → Date → Option Stamp → Date → List ℕ
whens_text s d t e = when_text (ascii "first") s d ++ when_text (ascii "last") t e

unfoldable pub summary_text : Tally → Date → Date → List ℕ
summary_text x d e =
    number_line (ascii "packets ") x.packets
    ++ (number_line (ascii "read ") (get_or x.numbers 0 0)
    ++ (numbers_text 1 (take 11 (drop 1 x.numbers)) ++ (number_line (ascii "breaks ") x.breaks ++ whens_text x.first d x.last e)))

pub record Summary (x : Tally) (before after : List ℕ) (length : ℕ) : Type 0 where
  pub date : Date
  pub until : Date
  pub dated : DateOf (since x.first) date
  pub dated_until : DateOf (since x.last) until
  pub text : Puts before 0 (summary_text x date until) after length
