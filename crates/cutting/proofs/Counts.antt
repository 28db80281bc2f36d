-- How many bytes are missing, as the code counts them. Assumes nothing.
use Prim.Native.Nat.{ℕ, ◌-◌, ◌<◌, ◌≤◌, min}
use mathlib.Core.Bool.{Bool, true, false}
use mathlib.Core.Path.{◌≡◌, refl}
use native.Mathlib.Omega.{arith}
use borrow.Author.Tests.{ltb-true, ltb-false}
use lib.Dec.{ltb}
use Rattle.laws.specs.Pick.{pick}
use Rattle.cutting.specs.Gather.{missing}

pub least_missing : (have need room s r : ℕ) → s ≡ need - have → r ≡ min s room → (r ≡ missing have need room) × (r ≤ room)
unfolding missing
least_missing have need room s r e f = go (ltb room (need - have)) refl
  where
    go : (b : Bool) → ltb room (need - have) ≡ b → (r ≡ pick b room (need - have)) × (r ≤ room)
    go true p = let l : room < need - have = ltb-true _ _ p in (omega arith, omega arith)
    go false p = let l : need - have ≤ room = ltb-false _ _ p in (omega arith, omega arith)
