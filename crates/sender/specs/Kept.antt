-- The sender with a stored count of waiting packets for each queue (02, E1): 01's calls, where the counts are right, and the state after them
-- with its counts. The bytes stand as in 01, so no code has this layout any more: Rings.antt has the calls as they are, over this page. Assumes
-- nothing.
use Rattle.std.specs.Prelude.{ℕ, List, [], ◌∷◌, Bool, not, ◌||◌, eqb, length, get_or, replicate}
use Rattle.laws.specs.Pick.{pick}
use Rattle.laws.specs.Refuse.{Test, test, refused_with}
use Rattle.laws.specs.Written.{written}
use Rattle.hand.specs.Settings.{settings_for}
use Rattle.hand.specs.Hand.{no_three}
use Rattle.hand.specs.declared.Three.{Three}
use Rattle.hand.specs.declared.Settings.{Settings}
use Rattle.queue.specs.Queue.{waiting}
use Rattle.queue.specs.Stored.{miscounts}
use Rattle.sender.specs.State.{queue_of, fresh}
use Rattle.sender.specs.Load.{load_tests, loaded, placed_in}
use Rattle.sender.specs.Frame.{hand_of, closed_all, frame_tests, framed, frame_bytes}
use Rattle.sender.specs.declared.Front.{Front}

-- ---- the state, and what the calls give back
-- 01's part, and the stored counts of the three queues
pub record Kept : Type 0 where
  pub front : Front
  pub waiting : List ℕ

pub record KeptLoaded : Type 0 where
  pub number : ℕ
  pub next : Kept

pub record KeptFramed : Type 0 where
  pub number : ℕ
  pub next : Kept
  pub packets : Three
  pub spares : ℕ
  pub filler : ℕ

-- the count stored for queue id
abbrev pub stored_of : Kept → ℕ → ℕ
stored_of s id = get_or s.waiting id 0

-- the packets that wait in each queue, added up from its units
abbrev pub counts_of : ℕ → Front → List ℕ
counts_of p f = waiting p (queue_of f 0) ∷ waiting p (queue_of f 1) ∷ waiting p (queue_of f 2) ∷ []

-- 01's state with its counts
unfoldable pub kept : ℕ → Front → Kept
kept p f = record { front = f; waiting = counts_of p f }

-- nothing waits
unfoldable pub fresh_kept : Kept
fresh_kept = record { front = fresh; waiting = replicate 3 0 }

-- what refusal 17 has beyond 01's list: in one of the three queues the stored count differs from the sum, for the p of the call's settings
unfoldable pub miscounted : ℕ → Kept → Bool
miscounted p s =
    miscounts p (queue_of s.front 0) (stored_of s 0) || miscounts p (queue_of s.front 1) (stored_of s 1) || miscounts p (queue_of s.front 2) (stored_of s 2)

-- ---- loading a unit
-- the refusals in the order tried: the sum needs an allowed p, so 13 comes first; then a wrong count, then 01's list
unfoldable pub kept_load_tests : Settings → Kept → ℕ → ℕ → ℕ → List Test
kept_load_tests g s id n room = test (not (eqb (settings_for g) 0)) 13 ∷ test (miscounted g.p s) 17 ∷ load_tests g s.front id n room

unfoldable pub kept_load_number : Settings → Kept → ℕ → List ℕ → List ℕ → ℕ
kept_load_number g s id unit store = refused_with (kept_load_tests g s id (length unit) (length store))

-- the answer, and the store after the call
unfoldable pub kept_load_for : Settings → Kept → ℕ → List ℕ → List ℕ → KeptLoaded
kept_load_for g s id unit store =
    let number = kept_load_number g s id unit store in
    record { number = number; next = pick (eqb number 0) (kept g.p (loaded s.front id (length unit))) s }

unfoldable pub kept_store_for : Settings → Kept → ℕ → List ℕ → List ℕ → List ℕ
kept_store_for g s id unit store = pick (eqb (kept_load_number g s id unit store) 0) (placed_in s.front id unit store) store

-- ---- a frame
unfoldable pub kept_frame_tests : Settings → Kept → ℕ → ℕ → List Test
kept_frame_tests g s room size = test (not (eqb (settings_for g) 0)) 13 ∷ test (miscounted g.p s) 17 ∷ frame_tests g s.front room size

unfoldable pub kept_frame_number : Settings → Kept → List ℕ → List ℕ → ℕ
kept_frame_number g s store out = refused_with (kept_frame_tests g s (length store) (length out))

-- what a frame that is not refused answers
unfoldable pub kept_framed : Settings → Kept → KeptFramed
kept_framed g s =
    let f = framed g s.front in
    record { number = 0; next = kept g.p f.next; packets = f.packets; spares = f.spares; filler = f.filler }

unfoldable pub kept_frame_for : Settings → Kept → List ℕ → List ℕ → KeptFramed
kept_frame_for g s store out =
    let number = kept_frame_number g s store out in
    pick (eqb number 0) (kept_framed g s) (record { number = number; next = s; packets = no_three; spares = 0; filler = 0 })

-- the output and the store after the call
unfoldable pub kept_frame_out : Settings → Kept → List ℕ → List ℕ → List ℕ
kept_frame_out g s store out = pick (eqb (kept_frame_number g s store out) 0) (written out 0 (frame_bytes g s.front store)) out

unfoldable pub kept_store_after : Settings → Kept → List ℕ → List ℕ → List ℕ
kept_store_after g s store out = pick (eqb (kept_frame_number g s store out) 0) (closed_all g.p s.front (hand_of g s.front).packets store) store
