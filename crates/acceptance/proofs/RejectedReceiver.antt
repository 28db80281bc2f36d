-- No function that meets the promise of the receiver's step is a receiver that never delivers (01, "Acceptance of the promises"): a last packet
-- without a useful byte ends an open unit. Assumes nothing.
use Prim.Native.Nat.{ℕ}
use mathlib.Core.Path.{◌≡◌, sym, ap, ◌∙◌, subst}
use mathlib.Core.List.{List, [], ◌∷◌}
use lib.ListN.{replicate, length-replicate}
use Rattle.receiver.specs.Answer.{Told, Delivered}
use Rattle.receiver.specs.Receiver.{Stepped}
use Rattle.receiver.specs.Dropped.{told_for}
use Rattle.receiver.proofs.Examples.{open_with, empty_unit}
use Rattle.acceptance.specs.Wrong.{Listener, Receives, is_unit, NeverDelivers}

abbrev buffer : List ℕ
buffer = replicate 16384 0

-- id 0, index 1, last and padded, no useful byte
abbrev packet : List ℕ
packet = 0x49 ∷ 0 ∷ 0 ∷ 0 ∷ 0 ∷ 0x57 ∷ 0xe7 ∷ []

pub no_silent_receiver : (f : Listener) → Receives f → NeverDelivers f → ⊥
unfolding told_for
no_silent_receiver f meets never =
    let r = open_with 1 0 in
    let e : (f 4 r packet buffer).0.answer ≡ Delivered 0 0
    = ap (λ (t : Told). t.answer) ((meets 4 r packet buffer).0 ∙ ap (told_for 4 r packet) (length-replicate {A = ℕ} 16384 0))
    ∙ ap (λ (t : Stepped). t.answer) empty_unit.1 in
    never 4 r packet buffer (subst is_unit (sym e) tt)
