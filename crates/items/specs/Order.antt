-- The same items in another order (01, "MDI packet": items follow each other in any order). Assumes nothing.
use Rattle.std.specs.Prelude.{◌≡◌, List, [], ◌∷◌, ◌++◌}
use Rattle.items.specs.Items.{Item}

-- an item stands somewhere in a list, and of the others this holds
pub record Taken (i : Item) (js : List Item) (Others : List Item → Type 0) : Type 0 where
  pub before : List Item
  pub behind : List Item
  pub here : js ≡ before ++ (i ∷ behind)
  pub others : Others (before ++ behind)

-- each item of the first list stands in the second, and the second has no others
abbrev pub Reordered : List Item → List Item → Type 0
Reordered [] js = js ≡ []
Reordered (i ∷ is) js = Taken i js (Reordered is)
