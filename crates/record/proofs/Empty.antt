-- What empty values say: all zeros. Assumes nothing.
use Rattle.std.proofs.Common.{◌≡◌, []}
use Rattle.std.specs.Prelude.{None}
use Rattle.laws.specs.Big.{number_at, big_of}
use Rattle.fac.specs.declared.Fac.{Fac}
use Rattle.fac.specs.Channel.{fac_from, fac_of}
use Rattle.sdc.specs.declared.Sdc.{Sdc}
use Rattle.sdc.specs.Block.{no_sdc}
use Rattle.description.specs.declared.Description.{Description}
use Rattle.description.specs.Bytes.{slot_at, described_by}
use Rattle.record.specs.Records.{no_record}

pub none_is : (f : Fac) (s : Sdc) (d : Description) → f ≡ fac_of [] → s ≡ no_sdc → d ≡ described_by []
    → record { count = 0; fac = f; sdc = s; description = d; robustness = 0; time = None } ≡ no_record
unfolding fac_of fac_from number_at described_by slot_at big_of
none_is f s d ef es ed = rw (ef, es, ed)
