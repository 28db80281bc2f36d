-- `sender::Sender::write_rows` meets its contract. Assumes nothing.
use mathlib.Core.Path.{refl}
use native.Mathlib.Omega.{arith}
use Rattle.sender.proofs.Framing.{ends_are, rows_are}
use Rattle.sender.proofs.Sender.write_rows.Goals as goal

pub filler_at-index-requires : goal.filler_at-index-requires
filler_at-index-requires c = (c.requires.0, omega (arith, c.requires.1, c.row_at-c.auto.out, c.row_at-b.auto.out, c.row_at-a.auto.out))

pub returns : goal.returns
returns c = record { value = ends_are _ _ _ _ _ _ _ _ c.row_at-a.ensures.value c.row_at-b.ensures.value c.row_at-c.ensures.value c.filler_at-index.ensures.value; out_after = rows_are _ _ _ _ _ c.args.out.now _ _ _ _ _ _ _ c.requires.0.low c.requires.1 refl refl refl c.row_at-a.ensures.out_after c.row_at-b.ensures.out_after c.row_at-c.ensures.out_after c.filler_at-index.ensures.out_after }
