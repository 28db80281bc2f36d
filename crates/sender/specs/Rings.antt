-- The calls as they are: each queue is a ring in its part of the store (02, E9). What they answer and write is what the sender with counts
-- does with the same units where their bytes stand as in 01: a start only says where they stand. Assumes nothing.
use Rattle.std.specs.Prelude.{ℕ, ◌+◌, ◌*◌, ◌%◌, List, [], ◌∷◌, ◌++◌, Bool, not, ◌||◌, ltb, eqb, length, get_or, replicate}
use Rattle.laws.specs.Part.{part_of}
use Rattle.laws.specs.Pick.{pick}
use Rattle.laws.specs.Refuse.{Test, test, refused_with}
use Rattle.laws.specs.Written.{written}
use Rattle.hand.specs.Settings.{settings_for}
use Rattle.hand.specs.Hand.{no_three}
use Rattle.hand.specs.declared.Three.{Three}
use Rattle.hand.specs.declared.Settings.{Settings}
use Rattle.queue.specs.Queue.{unsent}
use Rattle.ring.specs.Ring.{turned, around}
use Rattle.sender.specs.State.{queue_of}
use Rattle.sender.specs.Load.{loaded}
use Rattle.sender.specs.Frame.{end_of, framed, frame_bytes}
use Rattle.sender.specs.Kept.{Kept, kept, fresh_kept, kept_load_tests, kept_frame_tests}
use Rattle.sender.specs.declared.Front.{Front}
use Rattle.sender.specs.declared.Sender.{Sender}
use Rattle.sender.specs.declared.Loaded.{Loaded}
use Rattle.sender.specs.declared.Framed.{Framed}

-- ---- the state that callers hold
-- 01's part of it
abbrev pub front_of : Sender → Front
front_of s = record { q = s.q; turn = s.turn; index = s.index }

-- without its starts, and with these
abbrev pub kept_of : Sender → Kept
kept_of s = record { front = front_of s; waiting = s.waiting }

abbrev pub starting : Kept → List ℕ → Sender
starting k starts = record { q = k.front.q; turn = k.front.turn; index = k.front.index; waiting = k.waiting; start = starts }

-- the place in queue id's part of the store where its unsent bytes begin
abbrev pub ring_start : Sender → ℕ → ℕ
ring_start s id = get_or s.start id 0

-- every ring starts at its front
unfoldable pub fresh_rings : Sender
fresh_rings = starting fresh_kept (replicate 3 0)

-- what refusal 17 has beyond the list below: one of the three starts is past 4,095
unfoldable pub strayed : Sender → Bool
strayed s = ltb 4095 (ring_start s 0) || ltb 4095 (ring_start s 1) || ltb 4095 (ring_start s 2)

-- ---- the store
-- queue id's part in the order of its ring: its unsent bytes first
abbrev pub ring_of : List ℕ → List ℕ → ℕ → List ℕ
ring_of starts store id = turned (get_or starts id 0) (part_of store id)

-- the store as 01 has it: the unsent bytes of each queue at the front of its part
unfoldable pub unrolled : List ℕ → List ℕ → List ℕ
unrolled starts store = ring_of starts store 0 ++ (ring_of starts store 1 ++ ring_of starts store 2)

-- ---- loading a unit
-- the refusals in the order tried: 13 first, as in both lists below; then a start that is too far, then a wrong count and 01's list
unfoldable pub ring_load_tests : Settings → Sender → ℕ → ℕ → ℕ → List Test
ring_load_tests g s id n room = test (not (eqb (settings_for g) 0)) 13 ∷ test (strayed s) 17 ∷ kept_load_tests g (kept_of s) id n room

unfoldable pub ring_load_number : Settings → Sender → ℕ → List ℕ → List ℕ → ℕ
ring_load_number g s id unit store = refused_with (ring_load_tests g s id (length unit) (length store))

-- an accepted unit of n bytes: no start moves
unfoldable pub ring_loaded : ℕ → Sender → ℕ → ℕ → Sender
ring_loaded p s id n = starting (kept p (loaded (front_of s) id n)) s.start

-- the place behind the unsent bytes of queue id
abbrev pub behind_unsent : Sender → ℕ → ℕ
behind_unsent s id = (ring_start s id + unsent (queue_of (front_of s) id)) % 4096

-- its bytes stand behind the unsent ones, around the end of the queue's part
unfoldable pub placed_around : Sender → ℕ → List ℕ → List ℕ → List ℕ
placed_around s id unit store = written store (id * 4096) (around (part_of store id) (behind_unsent s id) unit)

-- the answer, and the store after the call
unfoldable pub ring_load_for : Settings → Sender → ℕ → List ℕ → List ℕ → Loaded
ring_load_for g s id unit store =
    let number = ring_load_number g s id unit store in
    record { number = number; next = pick (eqb number 0) (ring_loaded g.p s id (length unit)) s }

unfoldable pub ring_store_for : Settings → Sender → ℕ → List ℕ → List ℕ → List ℕ
ring_store_for g s id unit store = pick (eqb (ring_load_number g s id unit store) 0) (placed_around s id unit store) store

-- ---- a frame. The store is only read
unfoldable pub ring_frame_tests : Settings → Sender → ℕ → ℕ → List Test
ring_frame_tests g s room size = test (not (eqb (settings_for g) 0)) 13 ∷ test (strayed s) 17 ∷ kept_frame_tests g (kept_of s) room size

unfoldable pub ring_frame_number : Settings → Sender → List ℕ → List ℕ → ℕ
ring_frame_number g s store out = refused_with (ring_frame_tests g s (length store) (length out))

-- each start moves on by the bytes that the packets of its queue have taken
abbrev pub start_after : ℕ → Sender → ℕ → ℕ → ℕ
start_after p s id n = (ring_start s id + (end_of p (front_of s) id n).at) % 4096

abbrev pub starts_after : ℕ → Sender → Three → List ℕ
starts_after p s n = start_after p s 0 n.a ∷ start_after p s 1 n.b ∷ start_after p s 2 n.c ∷ []

-- what a frame that is not refused answers
unfoldable pub ring_framed : Settings → Sender → Framed
ring_framed g s =
    let f = framed g (front_of s) in
    record {
      number = 0;
      next = starting (kept g.p f.next) (starts_after g.p s f.packets);
      packets = f.packets;
      spares = f.spares;
      filler = f.filler;
    }

unfoldable pub ring_frame_for : Settings → Sender → List ℕ → List ℕ → Framed
ring_frame_for g s store out =
    let number = ring_frame_number g s store out in
    pick (eqb number 0) (ring_framed g s) (record { number = number; next = s; packets = no_three; spares = 0; filler = 0 })

-- the output after the call
unfoldable pub ring_frame_out : Settings → Sender → List ℕ → List ℕ → List ℕ
ring_frame_out g s store out = pick (eqb (ring_frame_number g s store out) 0) (written out 0 (frame_bytes g (front_of s) (unrolled s.start store))) out
