-- E9 of 02: over every sequence of calls, whatever settings and faults, rings answer as the layout of before. Assumes nothing.
use Prim.Native.Nat.{ℕ, zero, suc, ◌≤◌, ◌<◌}
use mathlib.Core.Path.{◌≡◌, refl, sym, ap₂, subst}
use mathlib.Core.List.{List, [], ◌∷◌}
use native.Mathlib.Omega.{arith}
use lib.ListN.{length, take}
use Rattle.laws.specs.Part.{part_of}
use Rattle.queue.specs.Queue.{add_up, unsent}
use Rattle.sender.specs.State.{queue_of, fresh}
use Rattle.sender.specs.Kept.{Kept, fresh_kept}
use Rattle.sender.specs.Rings.{ring_start, ring_of, fresh_rings}
use Rattle.demand.specs.Run.{Act, load, frame, Answer}
use Rattle.layers.specs.KeptRun.{KeptDesk, fresh_kept_desk, after_kept, run_kept, answers_kept}
use Rattle.layers.specs.Run.{RingDesk, fresh_ring_desk, after_ring, run_ring, answers_ring}
use Rattle.layers.specs.Rings.{Same, SameCall, SameRun}
use Rattle.layers.proofs.SameChecks.{beside}
use Rattle.layers.proofs.SameLoads.{load_answer, load_same}
use Rattle.layers.proofs.SameFrames.{frame_answer, frame_same}

-- ---- one call
one_beside : (a : Act) (store : List ℕ) (y : RingDesk) → Same (beside store y) y → SameCall a (beside store y) y
one_beside (load g id unit) store y k = record { answer = load_answer store y k g id unit; desks = load_same store y k g id unit }
one_beside (frame g out) store y k = record { answer = frame_answer store y k g out; desks = frame_same store y k g out }

-- the state of x is that of y but for its starts
pub one_call : (a : Act) (x : KeptDesk) (y : RingDesk) → Same x y → SameCall a x y
one_call a x y k =
    subst (λ (s : Kept). SameCall a (record { state = s; store = x.store }) y) (sym k.state)
    (one_beside a x.store y (subst (λ (s : Kept). Same (record { state = s; store = x.store }) y) k.state k))

-- ---- a run
pub every_run : (acts : List Act) (x : KeptDesk) (y : RingDesk) → Same x y → SameRun acts x y
unfolding run_kept run_ring answers_kept answers_ring
every_run [] x y k = record { answers = refl; desks = k }
every_run (a ∷ rest) x y k =
    let c = one_call a x y k in
    let r = every_run rest (after_kept a x) (after_ring a y) c.desks in
    record { answers = ap₂ (λ (b : Answer) (bs : List Answer). b ∷ bs) c.answer r.answers; desks = r.desks }

-- ---- the fresh desks, whatever their stores hold
pub fresh_same : (s t : List ℕ) → length s ≡ length t → Same (fresh_kept_desk s) (fresh_ring_desk t)
unfolding fresh_rings fresh_kept fresh unsent add_up
fresh_same s t l = record { state = refl; near = near; long = l; bytes = bytes; three = refl; eight = eight }
  where
    near : (id : ℕ) → id < 3 → ring_start fresh_rings id ≤ 4095
    near zero h = omega arith
    near (suc zero) h = omega arith
    near (suc (suc zero)) h = omega arith
    near (suc (suc (suc id))) h = absurd (omega arith)

    bytes : (id : ℕ) → id < 3 → take (unsent (queue_of fresh id)) (part_of s id) ≡ take (unsent (queue_of fresh id)) (ring_of fresh_rings.start t id)
    bytes zero h = refl
    bytes (suc zero) h = refl
    bytes (suc (suc zero)) h = refl
    bytes (suc (suc (suc id))) h = absurd (omega arith)

    eight : (id : ℕ) → id < 3 → length (queue_of fresh id).left ≡ 8
    eight zero h = refl
    eight (suc zero) h = refl
    eight (suc (suc zero)) h = refl
    eight (suc (suc (suc id))) h = absurd (omega arith)
