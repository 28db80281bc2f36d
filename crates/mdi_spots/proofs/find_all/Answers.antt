-- `mdi_spots::find_all` meets its contract. Assumes nothing.
use Rattle.laws.specs.Big.{number_at, big_of}
use Rattle.tag_spots.specs.Rows.{key_at, keys_of}
use mathlib.Core.Path.{refl}
use native.Mathlib.Omega.{arith}
use Rattle.mdi_spots.proofs.Ways.{found}
use Rattle.mdi_spots.proofs.find_all.Goals as goal

pub returns : goal.returns
unfolding keys_of key_at number_at big_of
returns c = found c.args.s.now _ _ _ _ (λ j. omega (arith, c.type_inv.s j)) refl c.find_all-stop.ensures
