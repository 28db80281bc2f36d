-- Bytes put into a slice, where they have room (01, "Numbers given back": bytes that are not written stay the same). Assumes nothing.
use Rattle.std.specs.Prelude.{ℕ, ◌+◌, List, ◌&&◌, ◌≡◌, leb, length, take, drop}
use Rattle.laws.specs.Pick.{pick}
use Rattle.laws.specs.Written.{written, written_in, next_in}

-- d with xs at the offset; d as it is where xs does not lie wholly within it
unfoldable pub placed : List ℕ → ℕ → List ℕ → List ℕ
placed d at xs = written_in (length xs) d at xs

-- the offset behind xs; the offset itself where xs was not put
unfoldable pub behind : List ℕ → ℕ → List ℕ → ℕ
behind d at xs = next_in (length xs) d at xs

-- d with its n bytes at from moved to the offset to, which is no further back; d as it is where it has not so many
unfoldable pub pulled : List ℕ → ℕ → ℕ → ℕ → List ℕ
pulled d to from n = pick (leb to from && leb (from + n) (length d)) (written d to (take n (drop from d))) d

-- bytes stand at an offset of a buffer that was before, and the offset is behind them now
pub record Puts (before : List ℕ) (at : ℕ) (bytes after : List ℕ) (next : ℕ) : Type 0 where
  pub text : after ≡ written before at bytes
  pub end : next ≡ at + length bytes
