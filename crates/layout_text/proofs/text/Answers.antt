-- `layout_text::text` meets its contract. Assumes nothing.
use native.Mathlib.Omega.{arith}
use mathlib.Core.Path.{◌≡◌, sym, ◌∙◌}
use lib.ListN.{length}
use Rattle.refusal.specs.Refusal.{number_of}
use Rattle.refusal.proofs.Numbers.{number_ne0}
use Rattle.layout_text.proofs.Ways.{refused, done, counted}
use Rattle.line_text.proofs.Room.{fit}
use borrow.Author.Rules.{rules}
use Rattle.layout_text.proofs.text.Goals as goal

pub returns-in-Ok : goal.returns-in-Ok
returns-in-Ok c =
    let m : length c.args.out.now ≡ 1024 = search rules in
    let w = done _ _ _ _ _ c.in-Ok.p c.in-Ok.ensures.number c.capacity_in.ensures c.in-Ok.ensures.value c.put_layout.ensures.1 in
    record { answer = w.0; memory = w.1; room = counted _ _ _ _ m c.put_layout.ensures.0 w.0 w.1 }

pub returns-in-Err : goal.returns-in-Err
returns-in-Err c =
    let b = c.line.ensures.0 in
    let m : length c.args.out.now ≡ 1024 = search rules in
    let n : c.from.result ≡ number_of c.in-Err.why = c.from.ensures ∙ c.number.ensures in
    let w = refused _ _ _ _ _ (n ∙ c.in-Err.ensures.number) (λ z. number_ne0 c.in-Err.why (sym n ∙ z)) (fit (omega arith) c.line.ensures.1) in
    record { answer = w.0; memory = w.1; room = counted _ _ _ _ m (omega arith) w.0 w.1 }
