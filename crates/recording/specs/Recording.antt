-- The recording file (01, "Clock and recordings"): version byte 1, then for each packet a 4-byte big-endian byte length and the TAG packet.
-- Numbers and places as in 01, "Numbers given back". Assumes nothing.
use Rattle.std.specs.Prelude.{ℕ, ◌+◌, Bool, false, not, List, [], ◌∷◌, ◌++◌, ltb, eqb, length, get_or, take, drop}
use Rattle.laws.specs.Big.{bytes_of, number_at}
use Rattle.laws.specs.Limits.{longest}
use Rattle.laws.specs.Pick.{pick}
use Rattle.laws.specs.Refuse.{Test, test, refused_with, refused_at}
use Rattle.laws.specs.Said.{Said}
use Rattle.laws.specs.Written.{written}
use Rattle.recording.specs.Answers.{Opened, Grown, Step, Entry, End, Refused}

-- ---- the file

abbrev pub version : ℕ
version = 1

-- one packet's entry
unfoldable pub entry_of : List ℕ → List ℕ
entry_of packet = bytes_of 4 (length packet) ++ packet

unfoldable pub entries_of : List (List ℕ) → List ℕ
entries_of [] = []
entries_of (p ∷ ps) = entry_of p ++ entries_of ps

-- the recording of these packets
unfoldable pub recording_of : List (List ℕ) → List ℕ
recording_of ps = version ∷ entries_of ps

-- ---- opening it

-- an empty file is 2, at 0; another version is 6
unfoldable pub open_tests : List ℕ → List Test
open_tests file = record { holds = eqb (length file) 0; number = 2; place = 0 } ∷ test (not (eqb (get_or file 0 0) version)) 6 ∷ []

unfoldable pub opened_for : List ℕ → Opened
opened_for file =
    let n = refused_with (open_tests file) in record { number = n; place = refused_at (open_tests file); first = pick (eqb n 0) 1 0 }

-- ---- walking it

-- the packet length that the entry at an offset states, and where the next entry begins
unfoldable pub stated_at : List ℕ → ℕ → ℕ
stated_at file at = number_at 4 file at

unfoldable pub behind_at : List ℕ → ℕ → ℕ
behind_at file at = at + 4 + stated_at file at

-- the entry at an offset runs past the end: its length or its packet does. At the very end stands no entry
unfoldable pub cut_at : List ℕ → ℕ → Bool
cut_at file at = pick (eqb at (length file)) false (ltb (length file) (behind_at file at))

unfoldable pub step_tests : List ℕ → ℕ → List Test
step_tests file at = test (ltb longest (stated_at file at)) 1 ∷ record { holds = cut_at file at; number = 2; place = at } ∷ []

-- what stands at an offset
unfoldable pub step_for : List ℕ → ℕ → Step
step_for file at =
    pick (eqb at (length file)) End
    (pick (eqb (refused_with (step_tests file at)) 0) (Entry (at + 4) (stated_at file at) (behind_at file at))
    (Refused (refused_with (step_tests file at)) (refused_at (step_tests file at))))

-- 01's number and place for each case, and the values: of an entry where its packet starts, its length and where the next begins
unfoldable pub told : Step → Said
told (Entry start len next) = record { number = 0; place = 0; values = start ∷ len ∷ next ∷ [] }
told End = record { number = 0; place = 0; values = [] }
told (Refused number place) = record { number = number; place = place; values = [] }

unfoldable pub told_for : List ℕ → ℕ → Said
told_for file at = record {
  number = refused_with (step_tests file at);
  place = refused_at (step_tests file at);
  values = pick (eqb at (length file)) [] (pick (eqb (refused_with (step_tests file at)) 0) ((at + 4) ∷ stated_at file at ∷ behind_at file at ∷ []) []);
}

-- the packet of the entry at an offset: a part of the file, empty where there is no entry
unfoldable pub packet_in : List ℕ → Step → List ℕ
packet_in file (Entry start len next) = take len (drop start file)
packet_in file End = []
packet_in file (Refused number place) = []

unfoldable pub packet_for : List ℕ → ℕ → List ℕ
packet_for file at = packet_in file (step_for file at)

-- ---- writing it

unfoldable pub start_number : List ℕ → ℕ
start_number out = refused_with (test (eqb (length out) 0) 1 ∷ [])

unfoldable pub started_for : List ℕ → Grown
started_for out = let n = start_number out in record { number = n; length = pick (eqb n 0) 1 0 }

unfoldable pub start_output : List ℕ → List ℕ
start_output out = pick (eqb (start_number out) 0) (written out 0 (version ∷ [])) out

-- a packet too long is 1, and so is an output without room at the offset, which is tried last
unfoldable pub append_tests : List ℕ → List ℕ → ℕ → List Test
append_tests packet out at =
    test (ltb longest (length packet)) 1 ∷ test (ltb (length out) (at + length (entry_of packet))) 1 ∷ []

unfoldable pub append_number : List ℕ → List ℕ → ℕ → ℕ
append_number packet out at = refused_with (append_tests packet out at)

-- the answer: the length of the recording with its new entry
unfoldable pub grown_for : List ℕ → List ℕ → ℕ → Grown
grown_for packet out at =
    let n = append_number packet out at in record { number = n; length = pick (eqb n 0) (at + length (entry_of packet)) 0 }

-- the output after the call: the entry stands at the offset
unfoldable pub output_for : List ℕ → List ℕ → ℕ → List ℕ
output_for packet out at = pick (eqb (append_number packet out at) 0) (written out at (entry_of packet)) out
