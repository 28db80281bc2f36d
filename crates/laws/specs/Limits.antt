-- The one limit that many calls share (01, "Numbers given back", 1). Assumes nothing.
use Rattle.std.specs.Prelude.{ℕ}

-- bytes of the longest input: 8,191 empty TAG items of 8 bytes
abbrev pub longest : ℕ
longest = 65528
