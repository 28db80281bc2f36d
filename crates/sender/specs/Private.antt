-- What the private functions of this crate ask of their callers: no promise of a public call names it, and nothing here has to be believed. Assumes
-- nothing.
use Rattle.std.specs.Prelude.{ℕ, ◌+◌, ◌-◌, ◌*◌, ◌%◌, ◌≤◌, ◌<◌, List, [], ◌∷◌, ◌≡◌, Bool, false, not, ◌||◌, ltb, leb, eqb, length, Result, Ok, Err}
use Rattle.laws.specs.Limits.{longest}
use Rattle.laws.specs.Refuse.{Test, test}
use Rattle.refusal.specs.declared.Refusal.{Refusal}
use Rattle.refusal.specs.Refusal.{number_of}
use Rattle.hand.specs.Settings.{settings_for}
use Rattle.hand.specs.Hand.{no_three}
use Rattle.hand.specs.declared.Three.{Three}
use Rattle.hand.specs.declared.Settings.{Settings}
use Rattle.queue.specs.Queue.{unsent}
use Rattle.queue.specs.declared.Queue.{Queue}
use Rattle.sender.specs.State.{queue_of, broken_state}
use Rattle.sender.specs.Kept.{miscounted}
use Rattle.sender.specs.Rings.{front_of, kept_of, strayed}
use Rattle.sender.specs.declared.Front.{Front}
use Rattle.sender.specs.declared.Sender.{Sender}
use Rattle.sender.specs.declared.Ends.{Ends}
use Rattle.sender.specs.declared.Loaded.{Loaded}
use Rattle.sender.specs.declared.Framed.{Framed}

-- ---- what the checks of a frame establish: for its rows, and for the whole of it
pub record Ready (p : ℕ) (s : Front) (room : ℕ) : Type 0 where
  pub low : 1 ≤ p
  pub fine : broken_state p s ≡ false
  pub whole : room ≡ 12288

pub record Fit (g : Settings) (s : Front) (room size : ℕ) : Type 0 where
  pub allowed_in : settings_for g ≡ 0
  pub fine : broken_state g.p s ≡ false
  pub whole : room ≡ 12288
  pub fits : g.n * (g.p + 3) ≤ size

-- ---- and those of a load: what an accepted unit meets
pub record Accepted (s : Front) (id n room : ℕ) : Type 0 where
  pub one : 1 ≤ n
  pub most : n ≤ 4096
  pub id_in : id < 3
  pub count_in : (queue_of s id).count < 8
  pub fits : n + unsent (queue_of s id) ≤ 4096
  pub whole : room ≡ 12288

-- ---- the same with counts and starts (02, E1 and E9)
-- refusal 17 in one test
unfoldable pub faulty : ℕ → Sender → Bool
faulty p s = strayed s || (miscounted p (kept_of s) || broken_state p (front_of s))

-- the arrays of a state have their lengths
pub record Shape (s : Sender) : Type 0 where
  pub counts : length s.waiting ≡ 3
  pub eight_0 : length (queue_of (front_of s) 0).left ≡ 8
  pub eight_1 : length (queue_of (front_of s) 1).left ≡ 8
  pub eight_2 : length (queue_of (front_of s) 2).left ≡ 8

-- the refusals of a unit but for the last, 15: the room of its queue is looked at after them
unfoldable pub unit_tests : Settings → Sender → ℕ → ℕ → ℕ → List Test
unit_tests g s id n room =
    test (not (eqb (settings_for g) 0)) 13 ∷ test (faulty g.p s) 17 ∷ test (not (eqb room 12288)) 1 ∷ test (ltb longest n) 1
    ∷ test (eqb n 0) 14 ∷ test (ltb 4096 n) 14 ∷ test (ltb 2 id) 14 ∷ []

-- and that: no room for n bytes more in a queue that has `bytes` to send
unfoldable pub no_room : Queue → ℕ → ℕ → Bool
no_room q n bytes = leb 8 q.count || ltb 4096 (n + bytes)

-- what an accepted unit meets
pub record Entering (p : ℕ) (s : Sender) (id n room : ℕ) : Type 0 where
  pub low : 1 ≤ p
  pub starts : strayed s ≡ false
  pub right : miscounted p (kept_of s) ≡ false
  pub unit : Accepted (front_of s) id n room

-- and a frame
pub record Going (g : Settings) (s : Sender) (room size : ℕ) : Type 0 where
  pub starts : strayed s ≡ false
  pub right : miscounted g.p (kept_of s) ≡ false
  pub fit : Fit g (front_of s) room size

-- what an answer says: a refused call gives the state as it came, and no packets
abbrev pub loaded_in : Sender → Result Sender Refusal → Loaded
loaded_in s (Ok t) = record { number = 0; next = t }
loaded_in s (Err r) = record { number = number_of r; next = s }

abbrev pub framed_in : Sender → Result Framed Refusal → Framed
framed_in s (Ok f) = f
framed_in s (Err r) = record { number = number_of r; next = s; packets = no_three; spares = 0; filler = 0 }

-- the counts w without what a frame has of each queue
abbrev pub less : Three → Three → List ℕ
less w got = (w.a - got.a) ∷ (w.b - got.b) ∷ (w.c - got.c) ∷ []

-- the starts where the writing of a frame has ended that began at these
abbrev pub on_from : Three → Ends → List ℕ
on_from from e = ((from.a + e.a.at) % 4096) ∷ ((from.b + e.b.at) % 4096) ∷ ((from.c + e.c.at) % 4096) ∷ []
