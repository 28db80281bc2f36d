-- How many bytes of a block are gathered. Assumes nothing.
use Rattle.std.specs.Prelude.{ℕ, ◌-◌, ltb}
use Rattle.laws.specs.Pick.{pick}

-- to `have` bytes held, of a block of `room` bytes, as many as are missing to `need`, or all
unfoldable pub missing : ℕ → ℕ → ℕ → ℕ
missing have need room = pick (ltb room (need - have)) room (need - have)
