-- A big-endian number written into a slice. Reading one is numberAt of the crate laws. Assumes nothing.
use Rattle.std.specs.Prelude.{ℕ, List}
use Rattle.laws.specs.Big.{bytes_of}
use Rattle.laws.specs.Written.{written_in}

-- d with the low n bytes of v at the offset; d as it is where they do not lie wholly within it
unfoldable pub put_at : ℕ → List ℕ → ℕ → ℕ → List ℕ
put_at n d at v = written_in n d at (bytes_of n v)
