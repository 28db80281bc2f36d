-- What the types of a record say of it: every record of the code is so. Assumes nothing.
use Rattle.std.specs.Prelude.{◌^◌, ◌<◌, ◌≡◌, length}
use Rattle.record.specs.declared.Record.{Record}

-- the bits of its count, the sizes of its arrays
pub record Typed (r : Record) : Type 0 where
  pub count : r.count < 2 ^ 32
  pub body : length r.sdc.body ≡ 1024
  pub slots : length r.description.stream ≡ 4
