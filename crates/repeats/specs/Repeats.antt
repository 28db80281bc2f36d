-- The first item whose name came earlier (01, "MDI packet": no name, known or not, stands twice; refusal 3). Assumes nothing.
use Rattle.std.specs.Prelude.{ℕ, Bool, true, false, List, Option, Some, None, ltb, length}
use Rattle.laws.specs.Limits.{longest}
use Rattle.laws.specs.Pick.{pick}
use Rattle.items.specs.Items.{Found, none, cut_of, twice, is_there, place_of}

-- whether there is such an item, and its offset in the packet
pub record Repeat : Type 0 where
  pub found : Bool
  pub place : ℕ

-- what an answer says
abbrev pub repeat_in : Option ℕ → Repeat
repeat_in None = record { found = false; place = 0 }
repeat_in (Some at) = record { found = true; place = at }

unfoldable pub repeat_of : Found → Repeat
repeat_of f = record { found = is_there f; place = place_of f }

-- a packet over 65,528 bytes is not looked at: it is refused with 1 before
unfoldable pub repeat_for : List ℕ → Repeat
repeat_for packet = pick (ltb longest (length packet)) (repeat_of none) (repeat_of (twice (cut_of packet).items))
