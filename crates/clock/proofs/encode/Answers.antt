-- `clock::encode` meets its contract. Assumes nothing.
use mathlib.Core.Path.{sym}
use Rattle.std.proofs.lemmas.Result.{err_from_is_err_and}
use Rattle.refusal.specs.Refusal.{number_of}
use Rattle.refusal.proofs.Numbers.{number_ne0}
use Rattle.clock.proofs.Answers.{encode_fields, encode_short, encode_done}
use Rattle.clock.proofs.Fit.{within}
use Rattle.clock.proofs.encode.Goals as goal

pub returns-in_err-check : goal.returns-in_err-check
returns-in_err-check c =
    let p = err_from_is_err_and c.from_residual.result c.from_residual.ensures.1 in
    rw (p.1, p.2) (let both = encode_fields c.args.t c.args.out.now (number_of c.in_err-check.field-0.0) c.in_err-check.ensures (number_ne0 _) in record { answer = both.0; memory = both.1 })

pub returns-then-out-lt8 : goal.returns-then-out-lt8
returns-then-out-lt8 c = let both = encode_short c.args.t c.args.out.now (sym c.in_ok-check.ensures) c.if-out-lt8.true in record { answer = both.0; memory = both.1 }

pub bits_of-requires : goal.bits_of-requires
bits_of-requires c = within _ (sym c.in_ok-check.ensures)

pub returns : goal.returns
returns c = let both = encode_done c.args.t c.args.out.now (sym c.in_ok-check.ensures) c.if-out-lt8.false _ c.bits_of.ensures _ c.write64.ensures.1 in record { answer = both.0; memory = both.1 }
