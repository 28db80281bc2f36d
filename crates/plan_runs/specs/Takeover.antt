-- The takeover over runs (02, E10): it is at the first accepted frame that names the count, and at no other. Assumes nothing.
use Rattle.std.specs.Prelude.{ℕ, ◌+◌, ◌-◌, ◌%◌, ◌<◌, min, ◌≡◌, List, ◌++◌, true, ltb, length, get_or, replicate}
use Rattle.laws.specs.Pick.{pick}
use Rattle.hand.specs.declared.Settings.{Settings}
use Rattle.plans.specs.Plans.{second_of, taken}
use Rattle.plans.specs.declared.Plans.{Plans}
use Rattle.plan_runs.specs.Run.{Ask, PlanDesk, run_plan, counts_in, sets_in, first_of, Unchanged}

-- from a record g on, in which a set waits, accepted frames name the counts fs and are filled by these sets, and the record is then last
pub record Switched (g : Plans) (sets : List Settings) (fs : List ℕ) (last : Plans) : Type 0 where
  -- by the first set before the first frame that names the count, by the second from that frame on
  pub split : sets ≡ replicate (first_of g.second.count fs) g.now ++ replicate (length fs - first_of g.second.count fs) (second_of g)
  -- where there is such a frame the second set is in force and none waits; else it still waits
  pub left : last ≡ pick (ltb (first_of g.second.count fs) (length fs)) (taken g) g

-- how many frames come before the one that names c, where the first names f and counts run on modulo 2^32: c - f modulo 2^32
abbrev pub frames_until : ℕ → ℕ → ℕ
frames_until f c = (c + (4294967296 - f)) % 4294967296

-- from any desk in whose record a set waits, over any calls of which no change is accepted: whatever the counts, loads and refusals between
pub record TakesOver (asks : List Ask) (x : PlanDesk) : Type 0 where
  pub first : Switched x.plans (sets_in asks x) (counts_in asks x) (run_plan asks x).plans
  -- where accepted frame i, from 0, names f + i modulo 2^32: the first frame of the second set is number c - f modulo 2^32
  pub counted : (f : ℕ) → f < 4294967296 → x.plans.second.count < 4294967296
      → ((i : ℕ) → i < length (counts_in asks x) → get_or (counts_in asks x) i 0 ≡ (f + i) % 4294967296)
      → first_of x.plans.second.count (counts_in asks x) ≡ min (length (counts_in asks x)) (frames_until f x.plans.second.count)

abbrev pub Takeover : Type 0
Takeover = (asks : List Ask) (x : PlanDesk) → x.plans.second.waits ≡ true → Unchanged asks x → TakesOver asks x
