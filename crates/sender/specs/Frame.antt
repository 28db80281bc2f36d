-- A frame (01, "Packets, queues and receiver"): all packets of id 0, of id 1, of id 2, then filler. Assumes nothing.
use Rattle.std.specs.Prelude.{ℕ, zero, suc, ◌+◌, ◌*◌, ◌%◌, List, [], ◌∷◌, ◌++◌, true, not, ltb, eqb, length}
use Rattle.laws.specs.Part.{part_of}
use Rattle.laws.specs.Pick.{pick}
use Rattle.laws.specs.Refuse.{Test, test, refused_with}
use Rattle.laws.specs.Written.{written}
use Rattle.packet.specs.Packet.{packet_of, encode}
use Rattle.hand.specs.Settings.{settings_for}
use Rattle.hand.specs.Hand.{no_three, hand_for, Handed}
use Rattle.hand.specs.declared.Three.{Three}
use Rattle.hand.specs.declared.Settings.{Settings}
use Rattle.moves.specs.Moves.{pulled}
use Rattle.queue.specs.Queue.{unsent}
use Rattle.row.specs.Row.{steps, outs}
use Rattle.row.specs.declared.Out.{Out}
use Rattle.sender.specs.State.{index_of, out_of, broken_state, waiting_of}
use Rattle.sender.specs.declared.Front.{Front}
use Rattle.sender.specs.Answers.{Framed}
use Rattle.sender.specs.declared.Ends.{Ends}

-- what is handed out
unfoldable pub hand_of : Settings → Front → Handed
hand_of g s = hand_for g (waiting_of g.p s) s.turn

-- ---- the bytes of the frame
-- n packets of queue id
unfoldable pub row_at : ℕ → Front → List ℕ → ℕ → ℕ → List ℕ
row_at p s store id n = outs p id (part_of store id) n (out_of s id)

-- n null packets of id 3, the first with index i
unfoldable pub nulls : ℕ → ℕ → ℕ → List ℕ
nulls p i zero = []
nulls p i (suc n) = nulls p i n ++ encode p (packet_of true true 3 ((i + n) % 8) [])

unfoldable pub frame_packets : ℕ → Front → List ℕ → Three → ℕ → List ℕ
frame_packets p s store n filler = row_at p s store 0 n.a ++ row_at p s store 1 n.b ++ row_at p s store 2 n.c ++ nulls p (index_of s 3) filler

-- ---- the state after it
-- where the writing of queue id ends
abbrev pub end_of : ℕ → Front → ℕ → ℕ → Out
end_of p s id n = steps p n (out_of s id)

unfoldable pub ends_of : ℕ → Front → Three → ℕ → Ends
ends_of p s n filler =
    record { a = end_of p s 0 n.a; b = end_of p s 1 n.b; c = end_of p s 2 n.c; index = (index_of s 3 + filler) % 8 }

unfoldable pub next_from : Ends → ℕ → Front
next_from e turn =
    record { q = e.a.q ∷ e.b.q ∷ e.c.q ∷ []; turn = turn; index = e.a.index ∷ e.b.index ∷ e.c.index ∷ e.index ∷ [] }

-- ---- the store after it: the unsent bytes of each queue, moved to the front of its part
unfoldable pub closed : List ℕ → ℕ → Out → List ℕ
closed store id o = pulled store (id * 4096) (id * 4096 + o.at) (unsent o.q)

unfoldable pub closed_all : ℕ → Front → Three → List ℕ → List ℕ
closed_all p s n store = closed (closed (closed store 0 (end_of p s 0 n.a)) 1 (end_of p s 1 n.b)) 2 (end_of p s 2 n.c)

-- ---- the call
-- the refusals with a store of room bytes and an output of size bytes, in the order tried
unfoldable pub frame_tests : Settings → Front → ℕ → ℕ → List Test
frame_tests g s room size =
    test (not (eqb (settings_for g) 0)) 13 ∷ test (broken_state g.p s) 17 ∷ test (not (eqb room 12288)) 1 ∷ test (ltb size (g.n * (g.p + 3))) 1 ∷ []

unfoldable pub frame_number : Settings → Front → List ℕ → List ℕ → ℕ
frame_number g s store out = refused_with (frame_tests g s (length store) (length out))

-- what a frame that is not refused answers
unfoldable pub framed : Settings → Front → Framed
framed g s =
    let h = hand_of g s in
    record {
      number = 0;
      next = next_from (ends_of g.p s h.packets h.filler) h.turn;
      packets = h.packets;
      spares = h.spares;
      filler = h.filler;
    }

unfoldable pub frame_for : Settings → Front → List ℕ → List ℕ → Framed
frame_for g s store out =
    let number = frame_number g s store out in
    pick (eqb number 0) (framed g s) (record { number = number; next = s; packets = no_three; spares = 0; filler = 0 })

-- the bytes written
unfoldable pub frame_bytes : Settings → Front → List ℕ → List ℕ
frame_bytes g s store = frame_packets g.p s store (hand_of g s).packets (hand_of g s).filler

-- the output and the store after the call
unfoldable pub frame_out : Settings → Front → List ℕ → List ℕ → List ℕ
frame_out g s store out = pick (eqb (frame_number g s store out) 0) (written out 0 (frame_bytes g s store)) out

unfoldable pub store_after : Settings → Front → List ℕ → List ℕ → List ℕ
store_after g s store out = pick (eqb (frame_number g s store out) 0) (closed_all g.p s (hand_of g s).packets store) store
