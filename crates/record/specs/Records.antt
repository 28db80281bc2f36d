-- The record of an MDI packet (01, "MDI packet"). Assumes nothing.
use Rattle.std.specs.Prelude.{None}
use Rattle.fac.specs.Answers.{no_fac}
use Rattle.sdc.specs.Block.{no_sdc}
use Rattle.description.specs.Bytes.{nothing}
use Rattle.record.specs.declared.Record.{Record}

-- what a refused read gives
abbrev pub no_record : Record
no_record = record { count = 0; fac = no_fac; sdc = no_sdc; description = nothing; robustness = 0; time = None }
