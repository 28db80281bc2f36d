-- What each call of the walk answers and leaves (01, "Clock and recordings"). Assumes nothing.
use Rattle.std.specs.Prelude.{ℕ, ◌+◌, ◌-◌, ◌%◌, ◌^◌, min, true, false, List, [], ◌++◌, length, take, drop, ◌==◌, nat_lt}
use Rattle.laws.specs.Pick.{pick}
use Rattle.moves.specs.Moves.{placed}
use Rattle.recording.specs.Recording.{opened_for, step_for}
use Rattle.recording.specs.Answers.{Step, Entry, End, Refused}
use Rattle.walk.specs.declared.Walk.{Walk}
use Rattle.walk.specs.declared.Ended.{Ended}
use Rattle.walk.specs.State.{Fed}
use Rattle.walk.specs.Entries.{entry_need}

-- the version byte
unfoldable pub begun_for : List ℕ → Walk
begun_for first = record { number = (opened_for first).number; at = (opened_for first).first; have = 0 }

-- ---- a block

-- the bytes held, those taken of the block, and both
unfoldable pub held_of : Walk → List ℕ → List ℕ
held_of w work = take (min w.have 65532) work

unfoldable pub taken_for : Walk → List ℕ → List ℕ → List ℕ
taken_for w work block = take (entry_need (held_of w work) - length (held_of w work)) block

unfoldable pub grown_for : Walk → List ℕ → List ℕ → List ℕ
grown_for w work block = held_of w work ++ taken_for w work block

-- 2 is no refusal while bytes are to come
unfoldable pub met_by : ℕ → ℕ
met_by number = pick (number == 2) 0 number

-- by what stands at the front of the bytes held, so many, as if they were all
unfoldable pub fed_by : Step → ℕ → ℕ → ℕ → Fed
fed_by (Entry start len next) at size n = record { walk = record { number = 0; at = (at + next) % 2 ^ 64; have = 0 }; taken = n; whole = true; size = len }
fed_by End at size n = record { walk = record { number = 0; at = at; have = size }; taken = n; whole = false; size = 0 }
fed_by (Refused number place) at size n = record { walk = record { number = met_by number; at = at; have = size }; taken = n; whole = false; size = 0 }

-- once refused nothing is taken
unfoldable pub fed_for : Walk → List ℕ → List ℕ → Fed
fed_for w work block =
    pick (w.number == 0) (fed_by (step_for (grown_for w work block) 0) w.at (length (grown_for w work block)) (length (taken_for w work block)))
    (record { walk = w; taken = 0; whole = false; size = 0 })

unfoldable pub work_for : Walk → List ℕ → List ℕ → List ℕ
work_for w work block = pick (w.number == 0) (placed work (min w.have 65532) (taken_for w work block)) work

-- the packet of a whole entry in the work buffer; none where that has not so many bytes
unfoldable pub packet_at : List ℕ → ℕ → List ℕ
packet_at work size = pick (nat_lt (length work) (4 + size)) [] (take size (drop 4 work))

-- ---- the end

unfoldable pub ended_for : Walk → Ended
ended_for w = record {
  number = pick (w.number == 0) (pick (w.have == 0) 0 2) w.number;
  place = pick (w.number == 0) (pick (w.have == 0) 0 w.at) 0;
}
