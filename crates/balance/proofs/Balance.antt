-- The balance of bytes of any steps from the fresh record (E11 of 02). Assumes nothing.
use Prim.Native.Nat.{ℕ, zero, suc, ◌+◌, ◌<◌}
use mathlib.Core.Path.{◌≡◌, refl, ap}
use mathlib.Core.List.{List, [], ◌∷◌, ◌++◌, map}
use mathlib.Core.Bool.{Bool}
use native.Mathlib.Omega.{arith}
use lib.Dec.{eqb}
use lib.ListN.{length}
use Rattle.laws.specs.Sum.{sum}
use Rattle.receiver.specs.declared.Receiver.{Receiver}
use Rattle.receiver.specs.Receiver.{fresh}
use Rattle.receiver.specs.Bytes.{open_of}
use Rattle.receiver.specs.Run.{Input, after_all}
use Rattle.receiver.proofs.Sound.{fresh_fine}
use Rattle.balance.specs.History.{told_at, useful_at, length_by, delivered_at, dropped_at, skipped_at, sum_of, gather_of, taken_of, unit_lengths, units_in, lost_in, open_in, missed_in, of_four, open_over, open_held}
use Rattle.balance.specs.Balance.{Balance}
use Rattle.balance.proofs.Sums.{none, from_any}
use Rattle.balance.proofs.Gathered.{units_are, lost_are, missed_are, open_are}

fresh_open : (ids : ℕ → Bool) → open_held ids fresh ≡ 0
unfolding open_held of_four fresh open_of
fresh_open ids = omega (arith, none (ids 0), none (ids 1), none (ids 2), none (ids 3))

-- what the record holds is what is put together from the packets
open_gathered : (ids : ℕ → Bool) (gs : List Input) → open_over ids gs fresh ≡ open_held ids (after_all gs fresh)
unfolding open_over open_held of_four
open_gathered ids gs = rw (open_are 0 gs, open_are 1 gs, open_are 2 gs, open_are 3 gs)

bytes_are : (gs : List Input) (ids : ℕ → Bool)
    → sum_of (useful_at ids) gs fresh
    ≡ sum_of (delivered_at ids) gs fresh + sum_of (dropped_at ids) gs fresh + open_over ids gs fresh + sum_of (skipped_at ids) gs fresh
bytes_are gs ids = omega (arith, from_any ids gs fresh fresh_fine.four, fresh_open ids, open_gathered ids gs)

-- ---- one id
open_one : (gs : List Input) (id : ℕ) → id < 4 → open_over (eqb id) gs fresh ≡ length (open_in (taken_of id gs fresh))
unfolding open_over of_four
open_one gs zero h = omega arith
open_one gs (suc zero) h = omega arith
open_one gs (suc (suc zero)) h = omega arith
open_one gs (suc (suc (suc zero))) h = omega arith
open_one gs (suc (suc (suc (suc id)))) h = absurd (omega arith)

sum_append : (ms ns : List ℕ) → sum (ms ++ ns) ≡ sum ms + sum ns
sum_append [] ns = omega arith
sum_append (m ∷ ms) ns = omega (arith, sum_append ms ns)

delivered_sum : (id : ℕ) (gs : List Input) (r : Receiver) → sum (unit_lengths id gs r) ≡ sum_of (delivered_at (eqb id)) gs r
unfolding gather_of sum_of delivered_at
delivered_sum id [] r = refl
delivered_sum id (g ∷ gs) r =
    omega (arith, sum_append (length_by (eqb id) (told_at r g).answer) (unit_lengths id gs (told_at r g).next), delivered_sum id gs (told_at r g).next)

id_bytes : (gs : List Input) (id : ℕ) → id < 4
    → sum_of (useful_at (eqb id)) gs fresh
    ≡ sum (map length (units_in (taken_of id gs fresh))) + length (lost_in (taken_of id gs fresh)) + length (open_in (taken_of id gs fresh)) + length (missed_in (taken_of id gs fresh))
id_bytes gs id h =
    omega (arith, bytes_are gs (eqb id), open_one gs id h, ap sum (units_are id gs), delivered_sum id gs fresh, lost_are id gs, missed_are id gs)

-- ---- the statement
pub balanced : (gs : List Input) → Balance gs
balanced gs =
    record {
      bytes = bytes_are gs;
      gathered = id_bytes gs;
      units = λ id. units_are id gs;
      lost = λ id. lost_are id gs;
      missed = λ id. missed_are id gs;
      held = λ id. open_are id gs;
    }
