-- Loading a unit (01, "Packets, queues and receiver"). Assumes nothing.
use Rattle.std.specs.Prelude.{ℕ, ◌+◌, ◌*◌, List, [], ◌∷◌, Bool, not, ◌||◌, ltb, leb, eqb, length}
use Rattle.laws.specs.Limits.{longest}
use Rattle.laws.specs.Pick.{pick}
use Rattle.laws.specs.Refuse.{Test, test, refused_with}
use Rattle.laws.specs.Written.{written}
use Rattle.hand.specs.Settings.{settings_for}
use Rattle.hand.specs.declared.Settings.{Settings}
use Rattle.queue.specs.Queue.{unsent, pushed}
use Rattle.sender.specs.State.{queue_of, broken_state, put_queue}
use Rattle.sender.specs.declared.Front.{Front}
use Rattle.sender.specs.Answers.{Loaded}

-- no room for n bytes more in queue id: eight of its units are unfinished, or n plus its bytes not yet sent is over 4,096
unfoldable pub full : Front → ℕ → ℕ → Bool
full s id n = leb 8 (queue_of s id).count || ltb 4096 (n + unsent (queue_of s id))

-- the refusals of a unit of n bytes for queue id, with a store of room bytes, in the order tried
unfoldable pub load_tests : Settings → Front → ℕ → ℕ → ℕ → List Test
load_tests g s id n room =
    test (not (eqb (settings_for g) 0)) 13 ∷ test (broken_state g.p s) 17 ∷ test (not (eqb room 12288)) 1 ∷ test (ltb longest n) 1
    ∷ test (eqb n 0) 14 ∷ test (ltb 4096 n) 14 ∷ test (ltb 2 id) 14 ∷ test (full s id n) 15 ∷ []

unfoldable pub load_number : Settings → Front → ℕ → List ℕ → List ℕ → ℕ
load_number g s id unit store = refused_with (load_tests g s id (length unit) (length store))

-- an accepted unit of n bytes: the state
unfoldable pub loaded : Front → ℕ → ℕ → Front
loaded s id n = put_queue s id (pushed (queue_of s id) n)

-- and the store: its bytes stand behind the unsent ones of its queue
unfoldable pub placed_in : Front → ℕ → List ℕ → List ℕ → List ℕ
placed_in s id unit store = written store (id * 4096 + unsent (queue_of s id)) unit

-- the answer, and the store after the call
unfoldable pub load_for : Settings → Front → ℕ → List ℕ → List ℕ → Loaded
load_for g s id unit store =
    let number = load_number g s id unit store in record { number = number; next = pick (eqb number 0) (loaded s id (length unit)) s }

unfoldable pub store_for : Settings → Front → ℕ → List ℕ → List ℕ → List ℕ
store_for g s id unit store = pick (eqb (load_number g s id unit store) 0) (placed_in s id unit store) store
