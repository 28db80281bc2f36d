-- A sender that answers as 01's does, from its own fresh state, meets the same conditions, whatever it keeps. Assumes nothing.
use Prim.Native.Nat.{ℕ}
use mathlib.Core.Path.{◌≡◌, sym, subst}
use mathlib.Core.List.{List}
use lib.ListN.{length}
use Rattle.demand.specs.Run.{Act, fresh_desk, Answer, answers}
use Rattle.demand.specs.Log.{events, Stands}
use Rattle.demand.specs.Condition.{Condition}
use Rattle.demand.specs.Reported.{Reported}
use Rattle.demand.specs.Stream.{Stream}
use Rattle.demand.proofs.Condition.{condition}
use Rattle.demand.proofs.Reported.{reports}
use Rattle.demand.proofs.Stream.{stream}

-- its calls, and the answers bs that they got
module _ (p : ℕ) (acts : List Act) (store : List ℕ) (hs : length store ≡ 12288) (bs : List Answer) (e : answers acts (fresh_desk store) ≡ bs) (st : Stands p (events acts bs)) where
  same_p : Stands p (events acts (answers acts (fresh_desk store)))
  same_p = subst (λ (cs : List Answer). Stands p (events acts cs)) (sym e) st

  pub condition_carried : Condition p (events acts bs)
  condition_carried = subst (λ (cs : List Answer). Condition p (events acts cs)) e (condition p acts store hs same_p)

  pub reports_carried : Reported p (events acts bs)
  reports_carried = subst (λ (cs : List Answer). Reported p (events acts cs)) e (reports p acts store hs same_p)

  pub stream_carried : Stream p (events acts bs)
  stream_carried = subst (λ (cs : List Answer). Stream p (events acts cs)) e (stream p acts store hs same_p)
