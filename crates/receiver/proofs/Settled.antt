-- Each promise settles its call: two outcomes that meet it for the same input are equal (01, "Acceptance of the promises"). An input of the step
-- is p, the record, the packet and the buffer before the call. Assumes nothing.
use Prim.Native.Nat.{ℕ}
use mathlib.Core.Path.{◌≡◌, refl, sym, ap, ap₂, ◌∙◌}
use Rattle.std.specs.Prelude.{Option, None, Some, Ok}
use Rattle.refusal.proofs.Told.{Tells, tells_apart}
use mathlib.Core.List.{List}
use lib.ListN.{length}
use Rattle.laws.specs.Settle.{Settles}
use Rattle.laws.proofs.Settle.{settled}
use Rattle.receiver.specs.declared.Receiver.{Receiver}
use Rattle.receiver.specs.declared.Delivered.{Delivered}
use Rattle.receiver.specs.declared.Told.{Told}
use Rattle.receiver.specs.declared.Heard.{Heard}
use Rattle.receiver.specs.Answer as said
use Rattle.receiver.specs.Answer.{Nothing, Delivered as unit_of, Refused, answer_of, told_of, heard_of}
use Rattle.receiver.specs.Receiver as states
use Rattle.receiver.specs.Receiver.{buffer_for}
use Rattle.receiver.specs.Dropped.{told_for, heard_for}

pub fresh : Settles (λ (i : Unit {0}) (r : Receiver). r ≡ states.fresh)
fresh = settled (λ i. states.fresh)

-- what is told of an answer is all that it has
answer_number : said.Answer → ℕ
answer_number Nothing = 0
answer_number (unit_of id n) = 0
answer_number (Refused n) = n

answer_value : said.Answer → Option Delivered
answer_value Nothing = None
answer_value (unit_of id n) = Some (record { id = id; length = n })
answer_value (Refused n) = None

answer_tells : Tells answer_of
unfolding answer_number answer_value
answer_tells = record { number = answer_number; of_ok = zero; of_err = λ r. refl; values = λ a b e. sym (back a) ∙ ap answer_value e ∙ back b }
  where
    zero : (a : Option Delivered) → answer_number (answer_of (Ok a)) ≡ 0
    zero None = refl
    zero (Some d) = refl

    back : (a : Option Delivered) → answer_value (answer_of (Ok a)) ≡ a
    back None = refl
    back (Some d) = refl

heard_apart : (x y : Heard) → heard_of x ≡ heard_of y → x ≡ y
heard_apart x y e =
    ap₂ (λ a d. record { answer = a; dropped = d })
    (tells_apart answer_tells x.answer y.answer (ap (λ (t : said.Heard). t.answer) e))
    (ap (λ (t : said.Heard). t.dropped) e)

told_apart : (x y : Told) → told_of x ≡ told_of y → x ≡ y
told_apart x y e =
    ap₂ (λ (h : Heard) n. record { answer = h.answer; dropped = h.dropped; next = n })
    (heard_apart (record { answer = x.answer; dropped = x.dropped }) (record { answer = y.answer; dropped = y.dropped }) (ap (λ (t : said.Told). record { answer = t.answer; dropped = t.dropped }) e))
    (ap (λ (t : said.Told). t.next) e)

pub step : Settles (λ (i : ℕ × Receiver × List ℕ × List ℕ) (o : Told × List ℕ).
    (told_of o.0 ≡ told_for i.0 i.1 i.2 (length i.3)) × (o.1 ≡ buffer_for i.0 i.1 i.2 i.3))
step i x y p q = ap₂ (λ a m. (a, m)) (told_apart x.0 y.0 (p.0 ∙ sym q.0)) (p.1 ∙ sym q.1)

-- of the outer call: what it gives back with the record behind the loan, and the buffer
pub step_in : Settles (λ (i : ℕ × Receiver × List ℕ × List ℕ) (o : (Heard × Receiver) × List ℕ).
    ((heard_of o.0.0 ≡ heard_for i.0 i.1 i.2 (length i.3)) × (o.0.1 ≡ (told_for i.0 i.1 i.2 (length i.3)).next))
    × (o.1 ≡ buffer_for i.0 i.1 i.2 i.3))
step_in i x y p q =
    ap₂
    (λ a m. (a, m))
    (ap₂ (λ a r. (a, r)) (heard_apart x.0.0 y.0.0 (p.0.0 ∙ sym q.0.0)) (p.0.1 ∙ sym q.0.1))
    (p.1 ∙ sym q.1)
