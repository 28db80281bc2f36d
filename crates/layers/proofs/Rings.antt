-- E9 of 02: rings answer as the layout of before, over every sequence of calls. Assumes nothing.
use Prim.Native.Nat.{ℕ, ◌<◌}
use mathlib.Core.Path.{◌≡◌, refl, sym, ap, ◌∙◌, subst}
use mathlib.Core.List.{List}
use mathlib.Core.Bool.{Bool, true, false, not}
use borrow.Author.Tests.{ne_eqb}
use lib.Dec.{eqb}
use lib.ListN.{length}
use Rattle.laws.specs.Pick.{pick}
use Rattle.laws.specs.Refuse.{refused_with}
use Rattle.hand.specs.Settings.{settings_for}
use Rattle.hand.specs.declared.Settings.{Settings}
use Rattle.sender.specs.Kept.{kept_load_tests, kept_frame_tests}
use Rattle.sender.specs.Rings.{kept_of, ring_start, strayed, ring_load_tests, ring_load_number, ring_load_for, ring_store_for, ring_frame_tests, ring_frame_number, ring_frame_for}
use Rattle.sender.specs.declared.Sender.{Sender}
use Rattle.sender.proofs.Checks.{strayed_at}
use Rattle.sender.proofs.Going.{ring_frame_says}
use Rattle.demand.specs.Run.{Act, load, frame, settings_of}
use Rattle.demand.specs.Log.{events, Stands}
use Rattle.layers.specs.KeptRun.{fresh_kept_desk, run_kept, log_kept}
use Rattle.layers.specs.Run.{RingDesk, fresh_ring_desk, after_ring, run_ring, answer_ring, log_ring}
use Rattle.layers.specs.Rings.{SameRun, RingsAreSame}
use Rattle.layers.proofs.Same.{one_call, every_run, fresh_same}
use Rattle.layers.proofs.Writes.{load_writes}

-- ---- a refused call
pub refused_same : (a : Act) (y : RingDesk) → ((answer_ring a y).number ≡ 0 → ⊥) → after_ring a y ≡ y
unfolding answer_ring after_ring ring_load_for ring_store_for ring_frame_for
refused_same (load g id unit) y n = simp (ne_eqb (ring_load_number g y.state id unit y.store) 0 n)
refused_same (frame g out) y n =
    simp (ne_eqb (ring_frame_number g y.state y.store out) 0 (λ z. n (ring_frame_says g y.state y.store out ∙ z)))

-- ---- a start that is too far
else_17 : (b t : Bool) (x : ℕ) → t ≡ true → ◌≡◌ {A = ℕ} (pick (not b) 13 (pick t 17 x)) (pick b 17 13)
else_17 true t x h = ap (λ (c : Bool). pick c 17 x) h
else_17 false t x h = refl

module _ (g : Settings) (s : Sender) where
  load_strayed : (id : ℕ) (unit store : List ℕ) → strayed s ≡ true → ring_load_number g s id unit store ≡ pick (eqb (settings_for g) 0) 17 13
  unfolding ring_load_number ring_load_tests
  load_strayed id unit store h = else_17 (eqb (settings_for g) 0) (strayed s) (refused_with (kept_load_tests g (kept_of s) id (length unit) (length store))) h

  frame_strayed : (store out : List ℕ) → strayed s ≡ true → ring_frame_number g s store out ≡ pick (eqb (settings_for g) 0) 17 13
  unfolding ring_frame_number ring_frame_tests
  frame_strayed store out h = else_17 (eqb (settings_for g) 0) (strayed s) (refused_with (kept_frame_tests g (kept_of s) (length store) (length out))) h

number_strayed : (a : Act) (y : RingDesk) (id : ℕ) → id < 3 → 4095 < ring_start y.state id → (answer_ring a y).number ≡ pick (eqb (settings_for (settings_of a)) 0) 17 13
unfolding answer_ring ring_load_for
number_strayed (load g j unit) y id h k = load_strayed g y.state j unit y.store (sym (strayed_at y.state id h k))
number_strayed (frame g out) y id h k = ring_frame_says g y.state y.store out ∙ frame_strayed g y.state y.store out (sym (strayed_at y.state id h k))

-- ---- E9
pub rings_are_same : RingsAreSame
unfolding after_ring
rings_are_same = record {
  call = one_call;
  run = every_run;
  fresh = λ acts s t l. every_run acts (fresh_kept_desk s) (fresh_ring_desk t) (fresh_same s t l);
  strayed = number_strayed;
  frames = λ g out y. refl;
  loads = load_writes;
  refused = refused_same;
}

-- from fresh, with one and the same store
module _ (acts : List Act) (store : List ℕ) where
  pub both_runs : SameRun acts (fresh_kept_desk store) (fresh_ring_desk store)
  both_runs = every_run acts (fresh_kept_desk store) (fresh_ring_desk store) (fresh_same store store refl)

  pub log_is : log_kept acts (fresh_kept_desk store) ≡ log_ring acts (fresh_ring_desk store)
  log_is = ap (events acts) (sym both_runs.answers)

  pub state_is : (run_kept acts (fresh_kept_desk store)).state ≡ kept_of (run_ring acts (fresh_ring_desk store)).state
  state_is = both_runs.desks.state

  pub stands_is : (p : ℕ) → Stands p (log_ring acts (fresh_ring_desk store)) → Stands p (log_kept acts (fresh_kept_desk store))
  stands_is p = subst (Stands p) (sym log_is)
