-- One call by a record of settings, beside the sender's own call by one set (02, E10). Assumes nothing.
use Rattle.std.specs.Prelude.{ℕ, ◌≡◌, List, true, false, ◌&&◌, ◌↔◌, eqb}
use Rattle.hand.specs.Settings.{settings_for, Allowed}
use Rattle.hand.specs.Hand.{no_three}
use Rattle.hand.specs.declared.Three.{Three}
use Rattle.plans.specs.Plans.{set_with, second_of, plans_for, taken, in_force, changed, change_for}
use Rattle.plans.specs.declared.Plans.{Plans}
use Rattle.planned.specs.Planned.{plan_load_for, plan_store_for, plan_frame_for, plan_frame_out}
use Rattle.planned.specs.declared.Framed.{Framed}
use Rattle.sender.specs.Rings.{ring_load_for, ring_store_for, ring_frame_for, ring_frame_out}
use Rattle.sender.specs.declared.Sender.{Sender}
use Rattle.sender.specs.declared.Framed as sent
use Rattle.plan_runs.specs.Run.{Ask, PlanDesk, answer_plan, after_plan}

-- the sender's answer to a frame, with a record beside it
abbrev pub with_plans : sent.Framed → Plans → Framed
with_plans o g =
    record { number = o.number; next = o.next; packets = o.packets; spares = o.spares; filler = o.filler; settings = g }

pub record OneCall : Type 0 where
  -- 13: the record is accepted exactly if the first set is within 01's limits, and, where one waits, the second with the same p. So is then the
  -- set in force at any count
  pub check : (g : Plans) → (plans_for g ≡ 0) ↔ (Allowed g.now × (g.second.waits ≡ true → Allowed (second_of g)))
  pub in_force_law : (g : Plans) (f : ℕ) → plans_for g ≡ 0 → settings_for (in_force f g).now ≡ 0
  -- a load by an accepted record is the sender's by the first set, and a frame has the number of the sender's by the set in force; by another
  -- record both are 13
  pub loads : (g : Plans) → plans_for g ≡ 0 → (s : Sender) (id : ℕ) (unit store : List ℕ)
      → (plan_load_for g s id unit store ≡ ring_load_for g.now s id unit store) × (plan_store_for g s id unit store ≡ ring_store_for g.now s id unit store)
  pub numbers : (g : Plans) (f : ℕ) → plans_for g ≡ 0 → (s : Sender) (store out : List ℕ)
      → (plan_frame_for g f s store out).number ≡ (ring_frame_for (in_force f g).now s store out).number
  pub thirteen : (g : Plans) → (plans_for g ≡ 0 → ⊥) → (s : Sender) (f id : ℕ) (unit store out : List ℕ)
      → ((plan_load_for g s id unit store).number ≡ 13) × ((plan_frame_for g f s store out).number ≡ 13)
  -- an accepted frame is the sender's by the set in force, in state, counts and output: nothing else of the state is touched by a takeover. The
  -- record comes back with that set
  pub frames : (g : Plans) (f : ℕ) (s : Sender) (store out : List ℕ) → (plan_frame_for g f s store out).number ≡ 0
      → (plan_frame_for g f s store out ≡ with_plans (ring_frame_for (in_force f g).now s store out) (in_force f g))
      × (plan_frame_out g f s store out ≡ ring_frame_out (in_force f g).now s store out)
  -- where none waits every call is the sender's by the first set, by an accepted record or not, and the record comes back as it came
  pub none_loads : (g : Plans) → g.second.waits ≡ false → (s : Sender) (id : ℕ) (unit store : List ℕ)
      → (plan_load_for g s id unit store ≡ ring_load_for g.now s id unit store) × (plan_store_for g s id unit store ≡ ring_store_for g.now s id unit store)
  pub none_frames : (g : Plans) → g.second.waits ≡ false → (f : ℕ) (s : Sender) (store out : List ℕ)
      → (plan_frame_for g f s store out ≡ with_plans (ring_frame_for g.now s store out) g) × (plan_frame_out g f s store out ≡ ring_frame_out g.now s store out)
  -- the record: an accepted frame that names the count of a waiting set leaves that set in force, and none waits
  pub takes : (g : Plans) (f : ℕ) (s : Sender) (store out : List ℕ) → g.second.waits ≡ true → g.second.count ≡ f
      → (plan_frame_for g f s store out).number ≡ 0 → (plan_frame_for g f s store out).settings ≡ taken g
  -- any other frame leaves it as it came
  pub other : (g : Plans) (f : ℕ) (s : Sender) (store out : List ℕ) → (g.second.waits && eqb g.second.count f) ≡ false
      → (plan_frame_for g f s store out).settings ≡ g
  -- an accepted change leaves p and the first set, and its own set waiting, whatever waited before
  pub changes : (g : Plans) (c n : ℕ) (share ceiling : Three) → (change_for g c n share ceiling).number ≡ 0
      → (change_for g c n share ceiling).next ≡ changed g c n share ceiling
  -- it is accepted exactly if the record is, and the new set, with the record's p, is within 01's limits
  pub change_check : (g : Plans) (c n : ℕ) (share ceiling : Three)
      → ((change_for g c n share ceiling).number ≡ 0) ↔ ((plans_for g ≡ 0) × Allowed (set_with g n share ceiling))
  -- a refused call leaves record, state and store as they came, and a frame the output too, and reports nothing
  pub refused : (a : Ask) (x : PlanDesk) → ((answer_plan a x).number ≡ 0 → ⊥) → after_plan a x ≡ x
  pub refused_out : (g : Plans) (f : ℕ) (s : Sender) (store out : List ℕ) → ((plan_frame_for g f s store out).number ≡ 0 → ⊥)
      → (plan_frame_out g f s store out ≡ out) × (plan_frame_for g f s store out ≡ with_plans (record { number = (plan_frame_for g f s store out).number; next = s; packets = no_three; spares = 0; filler = 0 }) g)
