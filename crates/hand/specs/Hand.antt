-- What a frame hands each of the three queues (01, "Packets, queues and receiver", "A frame"). Assumes nothing.
use Rattle.std.specs.Prelude.{ℕ, zero, suc, ◌+◌, ◌-◌, ◌%◌, min, List, [], ◌∷◌, ◌++◌, Bool, ltb, eqb, Result, Ok, Err}
use Rattle.laws.specs.Pick.{pick}
use Rattle.refusal.specs.declared.Refusal.{Refusal}
use Rattle.refusal.specs.Refusal.{number_of}
use Rattle.hand.specs.Settings.{at, total, settings_for}
use Rattle.hand.specs.declared.Three.{Three}
use Rattle.hand.specs.declared.Plan.{Plan}
use Rattle.hand.specs.declared.Settings.{Settings}
use Rattle.hand.specs.declared.Handed as declared

-- the smaller of two numbers, for each queue
abbrev pub low : Three → Three → Three
low x y = record { a = min x.a y.a; b = min x.b y.b; c = min x.c y.c }

-- one more for queue i
abbrev pub bump : Three → ℕ → Three
bump t i =
    pick (eqb i 0) (record { a = t.a + 1; b = t.b; c = t.c })
    (pick (eqb i 1) (record { a = t.a; b = t.b + 1; c = t.c }) (record { a = t.a; b = t.b; c = t.c + 1 }))

-- queue i gets a packet, and the turn is the next one's
unfoldable pub give : Plan → ℕ → Plan
give g i = record { packets = bump g.packets i; turn = (i + 1) % 3 }

-- queue i is below its cap
unfoldable pub free : Three → Plan → ℕ → Bool
free cap g i = ltb (at g.packets i) (at cap i)

-- a packet to each of these queues, one after the other
unfoldable pub given_to : List ℕ → Plan → Plan
given_to [] g = g
given_to (i ∷ ids) g = given_to ids (give g i)

-- the queue whose turn it is
abbrev pub turn_of : Plan → ℕ
turn_of g = g.turn % 3

-- the first of queues i, j, k that is below its cap; none where none is
unfoldable pub first_free : Three → Plan → ℕ → ℕ → ℕ → List ℕ
first_free cap g i j k = pick (free cap g i) (i ∷ []) (pick (free cap g j) (j ∷ []) (pick (free cap g k) (k ∷ []) []))

-- who gets the next spare, in cyclic order from the turn
unfoldable pub taker : Three → Plan → List ℕ
taker cap g = first_free cap g (turn_of g) ((turn_of g + 1) % 3) ((turn_of g + 2) % 3)

-- one spare
unfoldable pub give_one : Three → Plan → Plan
give_one cap g = given_to (taker cap g) g

-- who gets a spare, in the order of handing out: as many as there is room for, one at a time
unfoldable pub takers : ℕ → Three → Plan → List ℕ
takers zero cap g = []
takers (suc room) cap g = taker cap g ++ takers room cap (give_one cap g)

-- these spares
unfoldable pub spread : ℕ → Three → Plan → Plan
spread room cap g = given_to (takers room cap g) g

-- each queue's share or what waits, before the first spare
abbrev pub shares_met : Three → Three → ℕ → Plan
shares_met share waiting turn = record { packets = low share waiting; turn = turn }

-- n packets: these first, then spares to queues below both what waits and the ceiling
unfoldable pub hand_out : ℕ → Three → Three → Three → ℕ → Plan
hand_out n waiting share ceiling turn = spread (n - total (low share waiting)) (low waiting ceiling) (shares_met share waiting turn)

-- how often i stands in a list
unfoldable pub count_of : ℕ → List ℕ → ℕ
count_of i [] = 0
count_of i (x ∷ xs) = pick (eqb i x) 1 0 + count_of i xs

-- ---- a frame with these settings, before which so many packets wait
-- the packets that the shares leave
abbrev pub room_of : Settings → Three → ℕ
room_of s waiting = s.n - total (low s.share waiting)

-- the most that each queue gets: what waits in it, or its ceiling
abbrev pub cap_of : Settings → Three → Three
cap_of s waiting = low waiting s.ceiling

-- the steps of handing out: who gets a spare, in order
unfoldable pub spare_ids : Settings → Three → ℕ → List ℕ
spare_ids s waiting turn = takers (room_of s waiting) (cap_of s waiting) (shares_met s.share waiting turn)

-- ---- the call
-- with these settings
unfoldable pub plan_for : Settings → Three → ℕ → Plan
plan_for s waiting turn = hand_out s.n waiting s.share s.ceiling turn

abbrev pub no_three : Three
no_three = record { a = 0; b = 0; c = 0 }

-- what the call answers: the number; the packets of a frame for each queue, the spares among them, the filler, and the turn after it
pub record Handed : Type 0 where
  pub number : ℕ
  pub packets : Three
  pub spares : ℕ
  pub filler : ℕ
  pub turn : ℕ

-- and in these terms: all zero where it is refused
abbrev pub handed_in : Result declared.Handed Refusal → Handed
handed_in (Ok h) = record { number = 0; packets = h.packets; spares = h.spares; filler = h.filler; turn = h.turn }
handed_in (Err r) = record { number = number_of r; packets = no_three; spares = 0; filler = 0; turn = 0 }

-- the answer of the call. Spares are the packets above what share and waiting gave
unfoldable pub hand_for : Settings → Three → ℕ → Handed
hand_for s waiting turn =
    let g = plan_for s waiting turn in
    pick (eqb (settings_for s) 0)
    (record {
      number = 0;
      packets = g.packets;
      spares = total g.packets - total (low s.share waiting);
      filler = s.n - total g.packets;
      turn = g.turn;
    })
    (record { number = settings_for s; packets = no_three; spares = 0; filler = 0; turn = 0 })
