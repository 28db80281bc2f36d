-- A sender that answers as 01's does, from its own fresh state, is delivered alike, whatever it keeps. Assumes nothing.
use Prim.Native.Nat.{ℕ}
use mathlib.Core.Path.{◌≡◌, sym, subst}
use mathlib.Core.List.{List}
use lib.ListN.{length}
use Rattle.demand.specs.Run.{Act, fresh_desk, Answer, answers}
use Rattle.demand.specs.Log.{events, Stands}
use Rattle.delivery.specs.Delivery.{Delivery}
use Rattle.delivery.proofs.Delivery.{delivery}

pub delivery_carried : (p : ℕ) (acts : List Act) (store : List ℕ) → length store ≡ 12288 → (bs : List Answer) → answers acts (fresh_desk store) ≡ bs
    → Stands p (events acts bs) → (buffer : List ℕ) → length buffer ≡ 16384 → Delivery p (events acts bs) buffer
delivery_carried p acts store hs bs e st buffer hb =
    subst (λ (cs : List Answer). Delivery p (events acts cs) buffer) e
    (delivery p acts store hs (subst (λ (cs : List Answer). Stands p (events acts cs)) (sym e) st) buffer hb)
