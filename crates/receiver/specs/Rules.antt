-- The receiver's rules for one id, one below the other in 01's order ("Packets, queues and receiver", the receiver's paragraph). A packet has
-- continuity index i, first flag f, last flag t and n useful bytes. The step's own definitions, in Link, fold these rules together; that they
-- are the same is `rules` in proofs/Rules. Assumes nothing.
use Rattle.std.specs.Prelude.{ℕ, ◌+◌, Bool, true, false, not, leb}
use Rattle.laws.specs.Pick.{pick}
use Rattle.receiver.specs.declared.Link.{Link}
use Rattle.receiver.specs.Link.{kept, null_of, link_with, Fate, delivered, added, dropped, skipped}

-- what is known of the id after the packet, and what became of its useful bytes
pub record Ruled : Type 0 where
  pub link : Link
  pub fate : Fate

-- no unit is open after it
abbrev pub closes : ℕ → Fate → Ruled
closes i x = record { link = link_with i false 0; fate = x }

-- the useful bytes come to a unit of m bytes
unfoldable pub comes_to : ℕ → ℕ → Bool → ℕ → Ruled
comes_to m i t n =
    -- past 4,096 bytes: the unit is dropped and nothing written
    pick (not (leb (m + n) 4096)) (closes i dropped)
    -- otherwise they are added at the unit's end; last flag: the answer is the id and length
    (pick t (closes i delivered) (record { link = link_with i true (m + n); fate = added }))

-- every accepted packet's index is noted; another index than the next one drops the open unit (`kept`), and then
unfoldable pub ruled : Link → ℕ → Bool → Bool → ℕ → Ruled
ruled l i f t n =
    -- null: nothing more is done
    pick (null_of f t n) (record { link = link_with i (kept l i) l.len; fate = skipped })
    -- first flag: an open unit is dropped and a new one begins
    (pick f (comes_to 0 i t n)
    -- no unit open and no first flag: skipped
    (pick (not (kept l i)) (closes i skipped)
    -- otherwise it goes on
    (comes_to l.len i t n)))
