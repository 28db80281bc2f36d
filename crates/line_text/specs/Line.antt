-- Texts put into a buffer one behind the other (01, "Numbers given back": bytes that are not written stay the same). Assumes nothing.
use Rattle.std.specs.Prelude.{ℕ, List, ◌≡◌}
use Rattle.laws.specs.Written.{written_in, next_in}

-- a text stands at an offset of the buffer where it has the room that the call asks for, and nothing was written where not
pub record Placed (room : ℕ) (before : List ℕ) (at : ℕ) (text after : List ℕ) (next : ℕ) : Type 0 where
  pub buffer : after ≡ written_in room before at text
  pub end : next ≡ next_in room before at text
