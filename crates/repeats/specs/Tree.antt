-- Invariants of the private functions; no promise cites them. A digital search tree in two arrays: node k has the key keys k and the children kids (2 k) and kids (2 k + 1), 0 where there is none. The
-- way of a key takes its bits from the low end. Assumes nothing.
use Rattle.std.specs.Prelude.{ℕ, zero, suc, ◌+◌, ◌*◌, ◌/◌, ◌%◌, ◌≤◌, ◌<◌, ◌≡◌, Bool, true, false, List, [], ◌∷◌, ◌++◌, ◌⊎◌, Option, Some, None, Result, Ok, Err, length, get_or, take}
use Rattle.items.specs.Items.{cut_of, twice}
use Rattle.repeats.specs.Repeats.{repeat_in, repeat_of}

abbrev pub slot_of : ℕ → ℕ → ℕ
slot_of w v = 2 * v + w % 2

-- so many steps lead from the node v, with the rest w of a key, to the node v', with the rest w'
abbrev pub Leads : List ℕ → ℕ → ℕ → ℕ → ℕ → ℕ → Type 0
Leads kids zero w v w' v' = (w ≡ w') × (v ≡ v')
Leads kids (suc k) w v w' v' = (get_or kids (slot_of w v) 0 ≡ 0 → ⊥) × Leads kids k (w / 2) (get_or kids (slot_of w v) 0) w' v'

-- the way of a key comes by a node
pub record Reach (kids : List ℕ) (key j : ℕ) : Type 0 where
  pub steps : ℕ
  pub rest : ℕ
  pub leads : Leads kids steps key 0 rest j

pub record Tree (keys kids : List ℕ) (n : ℕ) : Type 0 where
  -- a child stands behind its parent, and is one of the n
  pub order : (k : ℕ) → (get_or kids k 0 ≡ 0) ⊎ ((k / 2 < get_or kids k 0) × (get_or kids k 0 < n))
  pub reach : (j : ℕ) → j < n → Reach kids (get_or keys j 0) j

-- a key is one of the first n
pub record Member (keys : List ℕ) (n key : ℕ) : Type 0 where
  pub index : ℕ
  pub low : index < n
  pub same : get_or keys index 0 ≡ key

pub record Miss (keys kids : List ℕ) (n key slot : ℕ) : Type 0 where
  pub node : ℕ
  pub way : Reach kids key node
  pub inside : node < n
  pub slot_is : slot ≡ slot_of way.rest node
  pub empty : get_or kids slot 0 ≡ 0
  pub other : Member keys n key → ⊥

-- where a key's way ends: at its node, or at the free place
abbrev pub Ends : List ℕ → List ℕ → ℕ → ℕ → Result ℕ ℕ → Type 0
Ends keys kids n key (Ok node) = (node < n) × (get_or keys node 0 ≡ key)
Ends keys kids n key (Err slot) = Miss keys kids n key slot

-- what `insert` does: the key was there and all stays; or it was not, it stands at n, and the tree has n + 1 keys
pub record Stored (keys kids : List ℕ) (n key : ℕ) (r : Bool) (keys' kids' : List ℕ) : Type 0 where
  pub was : r ≡ true → Member keys n key × (keys' ≡ keys) × (kids' ≡ kids)
  pub new : r ≡ false → (Member keys n key → ⊥) × Tree keys' kids' (n + 1) × (take (n + 1) keys' ≡ take n keys ++ (key ∷ []))

-- an array that is all clear
abbrev pub Zeros : List ℕ → Type 0
Zeros s = (k : ℕ) → get_or s k 0 ≡ 0

-- what `store` does with room for so many names: it has the answer, unless there are more items than that, of 8 bytes at least each
abbrev pub Looked : List ℕ → ℕ → Option (Option ℕ) → Type 0
Looked S room None = 8 * room + 8 ≤ length S
Looked S room (Some r) = repeat_in r ≡ repeat_of (twice (cut_of S).items)
