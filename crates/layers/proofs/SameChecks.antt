-- Two desks that hold the same units and bytes: they refuse alike, and where nothing is refused 01's desk is good. Assumes nothing.
use Prim.Native.Nat.{ℕ, zero, suc, ◌≤◌, ◌<◌}
use mathlib.Core.Path.{◌≡◌, refl}
use mathlib.Core.List.{List}
use mathlib.Core.Bool.{Bool, true, false, not}
use native.Mathlib.Omega.{arith}
use lib.Dec.{eqb}
use lib.ListN.{length}
use Rattle.laws.specs.Pick.{pick}
use Rattle.laws.specs.Refuse.{refused_with}
use Rattle.hand.specs.Settings.{settings_for}
use Rattle.hand.specs.declared.Settings.{Settings}
use Rattle.queue.proofs.Faults.{sound_of}
use Rattle.sender.specs.State.{queue_of, index_of, broken_state}
use Rattle.sender.specs.Load.{load_tests}
use Rattle.sender.specs.Frame.{frame_tests}
use Rattle.sender.specs.Kept.{miscounted, kept_load_tests, kept_load_number, kept_frame_tests, kept_frame_number}
use Rattle.sender.specs.Rings.{front_of, kept_of, strayed, ring_load_tests, ring_load_number, ring_frame_tests, ring_frame_number}
use Rattle.sender.specs.Private.{Fit}
use Rattle.sender.specs.declared.Front.{Front}
use Rattle.sender.proofs.Faults.{Fine, fine_of}
use Rattle.sender.proofs.Loading.{Passed, passed}
use Rattle.sender.proofs.Framing.{fine_queue, fit_of}
use Rattle.sender.proofs.Checks.{none_strayed, within}
use Rattle.demand.proofs.Good.{Good}
use Rattle.layers.specs.KeptRun.{KeptDesk, plain}
use Rattle.layers.specs.Run.{RingDesk}
use Rattle.layers.specs.Rings.{Same}

-- 13 is tried first, and a test that does not hold changes nothing
pub again : (a : Bool) (x : ℕ) → pick a 13 (pick false 17 (pick a 13 x)) ≡ pick a 13 x
again true x = refl
again false x = refl

-- the state of y with a store in the layout of before
abbrev pub beside : List ℕ → RingDesk → KeptDesk
beside store y = record { state = kept_of y.state; store = store }

module _ (store : List ℕ) (y : RingDesk) (k : Same (beside store y) y) where
  abbrev f : Front
  f = front_of y.state

  none : strayed y.state ≡ false
  none = none_strayed y.state k.near

  pub load_number_law : (g : Settings) (id : ℕ) (unit : List ℕ) → ring_load_number g y.state id unit y.store ≡ kept_load_number g (kept_of y.state) id unit store
  unfolding ring_load_number ring_load_tests kept_load_number kept_load_tests
  load_number_law g id unit = rw (none, k.long) (again (not (eqb (settings_for g) 0)) _)

  pub frame_number_law : (g : Settings) (out : List ℕ) → ring_frame_number g y.state y.store out ≡ kept_frame_number g (kept_of y.state) store out
  unfolding ring_frame_number ring_frame_tests kept_frame_number kept_frame_tests
  frame_number_law g out = rw (none, k.long) (again (not (eqb (settings_for g) 0)) _)

  -- what acceptance says
  pub load_passed : (g : Settings) (id : ℕ) (unit : List ℕ) → kept_load_number g (kept_of y.state) id unit store ≡ 0 → Passed g f id (length unit) (length store)
  unfolding kept_load_number kept_load_tests
  load_passed g id unit e =
      passed g f id (length unit) (length store)
      (within (not (eqb (settings_for g) 0)) (miscounted g.p (kept_of y.state)) (refused_with (load_tests g f id (length unit) (length store))) e).1

  pub frame_fits : (g : Settings) (out : List ℕ) → kept_frame_number g (kept_of y.state) store out ≡ 0 → Fit g f (length store) (length out)
  unfolding kept_frame_number kept_frame_tests
  frame_fits g out e =
      fit_of g f (length store) (length out)
      (within (not (eqb (settings_for g) 0)) (miscounted g.p (kept_of y.state)) (refused_with (frame_tests g f (length store) (length out))) e).1

  pub good_here : (p : ℕ) → broken_state p f ≡ false → length store ≡ 12288 → Good p (plain (beside store y))
  good_here p e l =
      record {
        three = k.three;
        queues = λ id h. sound_of p (queue_of f id) (k.eight id h) (fine_queue p f id h (fine_of p f e)).0;
        turn = (fine_of p f e).turn;
        indexes = indexes (fine_of p f e);
        store = l;
      }
    where
      indexes : Fine p f → (id : ℕ) → id < 4 → index_of f id ≤ 7
      indexes n zero h = n.i0
      indexes n (suc zero) h = n.i1
      indexes n (suc (suc zero)) h = n.i2
      indexes n (suc (suc (suc zero))) h = n.i3
      indexes n (suc (suc (suc (suc id)))) h = absurd (omega arith)
