-- The sender's calls by a record of settings with a second set (02, E10): those of crates/sender by the set in force, behind the check of the
-- whole record. Assumes nothing.
use Rattle.std.specs.Prelude.{ℕ, List, eqb}
use Rattle.laws.specs.Pick.{pick}
use Rattle.hand.specs.Hand.{no_three}
use Rattle.plans.specs.Plans.{plans_for, in_force}
use Rattle.plans.specs.declared.Plans.{Plans}
use Rattle.sender.specs.Rings.{ring_load_for, ring_store_for, ring_frame_for, ring_frame_out}
use Rattle.sender.specs.declared.Sender.{Sender}
use Rattle.sender.specs.declared.Loaded.{Loaded}
use Rattle.planned.specs.declared.Framed.{Framed}

-- ---- loading a unit: by the first set, since a load names no frame
unfoldable pub plan_load_for : Plans → Sender → ℕ → List ℕ → List ℕ → Loaded
plan_load_for g s id unit store = pick (eqb (plans_for g) 0) (ring_load_for g.now s id unit store) (record { number = plans_for g; next = s })

-- the store after the call
unfoldable pub plan_store_for : Plans → Sender → ℕ → List ℕ → List ℕ → List ℕ
plan_store_for g s id unit store = pick (eqb (plans_for g) 0) (ring_store_for g.now s id unit store) store

-- ---- the frame with count f
-- where the record is allowed: the sender's frame by the set in force, and the record with that set. A refused one takes nothing over
unfoldable pub framed_by : Plans → ℕ → Sender → List ℕ → List ℕ → Framed
framed_by g f s store out =
    let o = ring_frame_for (in_force f g).now s store out in
    record {
      number = o.number;
      next = o.next;
      packets = o.packets;
      spares = o.spares;
      filler = o.filler;
      settings = pick (eqb o.number 0) (in_force f g) g;
    }

unfoldable pub plan_frame_for : Plans → ℕ → Sender → List ℕ → List ℕ → Framed
plan_frame_for g f s store out =
    pick (eqb (plans_for g) 0) (framed_by g f s store out)
    (record { number = plans_for g; next = s; packets = no_three; spares = 0; filler = 0; settings = g })

-- the output after the call. The store is only read
unfoldable pub plan_frame_out : Plans → ℕ → Sender → List ℕ → List ℕ → List ℕ
plan_frame_out g f s store out = pick (eqb (plans_for g) 0) (ring_frame_out (in_force f g).now s store out) out
