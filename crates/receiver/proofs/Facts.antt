-- The end of a walk whose contract has several clauses, each a fact. Assumes `Logic`, as `says` does.
use mathlib.Core.List.{List}
use seplogic.Ra.Ura.{Ura}
use base.Logic.{SProp, ent, sep, emp, via, comm∗, mono∗, mono_l, emp∗}
use types.Logic.{Logic}
use contract.Monad.{fact, fact_i}
use types.Kit.{Item, prop, Step, step}

pub fact_and : {M : Type 1} (𝓤 : Ura M) {φ : Type 0} {Q : SProp 𝓤} → φ → ent 𝓤 (emp 𝓤) Q → ent 𝓤 (emp 𝓤) (sep 𝓤 (fact 𝓤 φ) Q)
fact_and 𝓤 {φ} {Q} x h = via 𝓤 (sep 𝓤 (emp 𝓤) (emp 𝓤)) (emp∗ 𝓤 (emp 𝓤)) (mono∗ 𝓤 (fact_i 𝓤 φ (emp 𝓤) x) h)

-- a goal P ∗ F, where F holds of nothing: P is left
pub says_all : {M : Type 1} {𝓤 : Ura M} {𝓛 : Logic 𝓤} {K : Type 0} {Γ : List (Item 𝓤)} → K → {F P : SProp 𝓤}
    → ent 𝓤 (emp 𝓤) F → Step K 𝓛 Γ (prop P) Γ (prop (sep 𝓤 P F))
says_all {𝓤 = 𝓤} {𝓛 = 𝓛} {Γ = Γ} t {F} {P} f =
    step (λ s. record { prf = via 𝓤 P s.prf (via 𝓤 (sep 𝓤 (emp 𝓤) P) (emp∗ 𝓤 P) (via 𝓤 (sep 𝓤 F P) (mono_l 𝓤 P f) (comm∗ 𝓤 F P))) })
