-- The refusals of an MDI packet (01, "Numbers given back"), in the order of their numbers, each asked of the whole packet. Assumes
-- nothing.
use Rattle.std.specs.Prelude.{ℕ, ◌-◌, List, [], ◌∷◌, Result, Ok, Err, ltb, leb, eqb, length}
use Rattle.laws.specs.Limits.{longest}
use Rattle.laws.specs.Pick.{pick}
use Rattle.laws.specs.Refuse.{Test, test, refused_with, refused_at}
use Rattle.items.specs.Items.{Item, cut_of, twice, is_there, place_of}
use Rattle.mdi_spots.specs.Spotted.{spots_of}
use Rattle.mdi_spots.specs.declared.Spots.{Spots}
use Rattle.mdi_spots.specs.Table.{missing, bad_length}
use Rattle.mdi.specs.Conditions.{bad_value, bad_fac, bad_sdc, unserved, bad_description, bad_streams}
use Rattle.refusal.specs.Refusal.{number_of}
use Rattle.refusal.specs.declared.Refused.{Refused}

-- what the FAC, the description and the streams say together
abbrev pub content_tests : List Item → List Test
content_tests is = test (unserved is) 9 ∷ test (bad_description is) 10 ∷ test (bad_streams is) 11 ∷ []

-- what the items say
unfoldable pub item_tests : List Item → List Test
item_tests is =
    test (missing is) 4
    ∷ test (bad_length is) 5
    ∷ test (bad_value is) 6
    ∷ test (bad_fac is) 7
    ∷ test (bad_sdc is) 8
    ∷ content_tests is

-- too long; 8 bytes or more behind the last whole item, at the place of the item that begins there; a name that came earlier, at the
-- first item that has such a name
unfoldable pub tests_for : List ℕ → List Test
tests_for packet =
    test (ltb longest (length packet)) 1
    ∷ record { holds = leb 8 (length packet - (cut_of packet).stop); number = 2; place = (cut_of packet).stop }
    ∷ record { holds = is_there (twice (cut_of packet).items); number = 3; place = place_of (twice (cut_of packet).items) }
    ∷ item_tests (cut_of packet).items

-- where no item is
abbrev pub nowhere : Spots
nowhere = spots_of []

-- number 0: the packet is well formed, and its known items stand at these spots; the place is an offset in the packet for 2 and 3, else 0
pub record Verdict : Type 0 where
  pub number : ℕ
  pub place : ℕ
  pub spots : Spots

-- what a check's answer says
abbrev pub verdict_in : Result Spots Refused → Verdict
verdict_in (Ok t) = record { number = 0; place = 0; spots = t }
verdict_in (Err r) = record { number = number_of r.why; place = r.place; spots = nowhere }

-- the spots of the known items are given with a packet that is not refused
unfoldable pub check_for : List ℕ → Verdict
check_for packet =
    let n = refused_with (tests_for packet) in
    record { number = n; place = refused_at (tests_for packet); spots = pick (eqb n 0) (spots_of (cut_of packet).items) nowhere }
