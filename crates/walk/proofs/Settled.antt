-- Each promise settles its call: two outcomes that meet it for the same input are equal (01, "Acceptance of the promises"). Assumes nothing.
use Rattle.std.proofs.Common.{◌≡◌, ℕ, List, sym, ap₂, ◌∙◌}
use Rattle.laws.specs.Settle.{Settles}
use Rattle.laws.proofs.Settle.{settled}
use Rattle.walk.specs.declared.Walk.{Walk}
use Rattle.walk.specs.declared.Fed as fed
use Rattle.walk.specs.declared.Ended.{Ended}
use Rattle.walk.specs.State.{fed_in}
use Rattle.walk.proofs.Apart.{same_fed}
use Rattle.walk.specs.Walk.{begun_for, fed_for, work_for, packet_at, ended_for}

pub begin : Settles (λ (first : List ℕ) (r : Walk). r ≡ begun_for first)
begin = settled begun_for

-- an input is the walk, the work buffer before the call and the block
pub feed : Settles (λ (i : Walk × List ℕ × List ℕ) (o : fed.Fed × List ℕ). (fed_in o.0 ≡ fed_for i.0 i.1 i.2) × (o.1 ≡ work_for i.0 i.1 i.2))
feed i x y p q = ap₂ (λ a m. (a, m)) (same_fed x.0 y.0 (p.0 ∙ sym q.0)) (p.1 ∙ sym q.1)

pub packet : Settles (λ (i : List ℕ × ℕ) (r : List ℕ). r ≡ packet_at i.0 i.1)
packet = settled (λ i. packet_at i.0 i.1)

pub end : Settles (λ (w : Walk) (r : Ended). r ≡ ended_for w)
end = settled ended_for
