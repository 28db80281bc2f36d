-- The receiver's rules for one id, on numbers (01, "Packets, queues and receiver", the receiver's paragraph, in its order). A packet has
-- continuity index i, first flag f, last flag t and n useful bytes. Assumes nothing.
use Rattle.std.specs.Prelude.{ℕ, ◌+◌, ◌%◌, Bool, true, false, not, ◌&&◌, ◌||◌, ltb, leb, eqb}
use Rattle.laws.specs.Pick.{pick}
use Rattle.receiver.specs.declared.Link.{Link}

-- the open unit outlives the index: it is the next one, or this is the first contact
unfoldable pub kept : Link → ℕ → Bool
kept l i = l.begun && pick l.heard (eqb i l.index) true

-- H: a null packet is padded, count 0, both flags set. A packet with no useful byte is padded, as p is 1 or more
unfoldable pub null_of : Bool → Bool → ℕ → Bool
null_of f t n = f && (t && eqb n 0)

-- the bytes of the unit before those of the packet: a first flag begins a new one
unfoldable pub base_of : Link → Bool → ℕ
base_of l f = pick f 0 l.len

-- the packet belongs to a unit: it is not null, and it begins one or one is open
unfoldable pub joins : Link → ℕ → Bool → Bool → ℕ → Bool
joins l i f t n = not (null_of f t n) && pick f true (kept l i)

-- and the unit does not pass 4,096 bytes with it: its bytes are added
unfoldable pub adds : Link → ℕ → Bool → Bool → ℕ → Bool
adds l i f t n = joins l i f t n && leb (base_of l f + n) 4096

-- and it has the last flag
unfoldable pub completes : Link → ℕ → Bool → Bool → ℕ → Bool
completes l i f t n = adds l i f t n && t

-- what becomes of the useful bytes of a packet
pub data Fate : Type 0 where
  -- with the unit that they complete
  delivered : Fate
  -- to the unit, which stays open
  added : Fate
  -- with the unit, which passes 4,096 bytes
  dropped : Fate
  -- no unit has them. Those of a null packet, too, which are none
  skipped : Fate

unfoldable pub fate_of : Link → ℕ → Bool → Bool → ℕ → Fate
fate_of l i f t n =
    pick (completes l i f t n) delivered (pick (adds l i f t n) added (pick (joins l i f t n) dropped skipped))

-- index i is noted, and the unit of n bytes is open or none is
unfoldable pub link_with : ℕ → Bool → ℕ → Link
link_with i b n = record { heard = true; index = (i + 1) % 8; begun = b; len = pick b n 0 }

-- what is known of the id after the packet
unfoldable pub link_after : Link → ℕ → Bool → Bool → ℕ → Link
link_after l i f t n =
    pick (null_of f t n) (link_with i (kept l i) l.len) (link_with i (adds l i f t n && not t) (base_of l f + n))

-- refusal 17: the index is over 7, or a unit is open and over 4,096
unfoldable pub broken_link : Link → Bool
broken_link l = ltb 7 l.index || (l.begun && ltb 4096 l.len)

-- no packet has come, and no unit is open
abbrev pub no_link : Link
no_link = record { heard = false; index = 0; begun = false; len = 0 }
