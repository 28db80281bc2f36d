-- The entries of a recording as their bytes come in, by what `recording::next` answers of them (01, "Clock and recordings"). Assumes nothing.
use Rattle.std.specs.Prelude.{ℕ, ◌+◌, min, List, length, ◌==◌, nat_lt}
use Rattle.laws.specs.Limits.{longest}
use Rattle.laws.specs.Pick.{pick}
use Rattle.cutting.specs.Sign.{Sign, More, Whole, Wrong}
use Rattle.recording.specs.Recording.{step_for, stated_at}
use Rattle.recording.specs.Answers.{Step, Entry, End, Refused}

-- an entry that is there is whole; one that the end cuts (2) may have more to come; any other refusal stands whatever comes
unfoldable pub sign_of : Step → Sign
sign_of (Entry start len next) = Whole
sign_of End = More
sign_of (Refused number place) = pick (number == 2) More (Wrong number)

-- what the bytes of an entry begun say
unfoldable pub entry_says : List ℕ → Sign
entry_says h = sign_of (step_for h 0)

-- how many there have to be before they say more: the four of the length, then those of the packet
unfoldable pub entry_need : List ℕ → ℕ
entry_need h = pick (nat_lt (length h) 4) 4 (4 + min longest (stated_at h 0))
