-- What becomes of the bytes, counted (01, "Packets, queues and receiver"): of one packet of an id, from the fate of its useful bytes. The step
-- reports `dropped_bytes` (02, E5: Dropped.antt); sums over a history of packets are made of all of them. Assumes nothing.
use Rattle.std.specs.Prelude.{ℕ, ◌+◌, Bool, true, not, ◌&&◌}
use Rattle.laws.specs.Pick.{pick}
use Rattle.receiver.specs.declared.Link.{Link}
use Rattle.receiver.specs.Link.{kept, null_of, base_of, Fate, delivered, added, dropped, skipped, fate_of}

-- the bytes of an open unit
unfoldable pub open_of : Link → ℕ
open_of l = pick l.begun l.len 0

-- of a unit that has m bytes with the packet, and of a packet of n: delivered, dropped, skipped
unfoldable pub delivered_by : Fate → ℕ → ℕ
delivered_by delivered m = m
delivered_by added m = 0
delivered_by dropped m = 0
delivered_by skipped m = 0

unfoldable pub dropped_by : Fate → ℕ → ℕ
dropped_by delivered m = 0
dropped_by added m = 0
dropped_by dropped m = m
dropped_by skipped m = 0

unfoldable pub skipped_by : Fate → ℕ → ℕ
skipped_by delivered n = 0
skipped_by added n = 0
skipped_by dropped n = 0
skipped_by skipped n = n

-- the open unit that a packet drops: by an index break, or by a first flag
unfoldable pub gone_of : Link → ℕ → Bool → Bool → ℕ → ℕ
gone_of l i f t n = pick (kept l i && pick (null_of f t n) true (not f)) 0 (open_of l)

-- the bytes that a packet delivers, drops (its own too, where the unit passes 4,096 bytes) and that are skipped
unfoldable pub delivered_bytes : Link → ℕ → Bool → Bool → ℕ → ℕ
delivered_bytes l i f t n = delivered_by (fate_of l i f t n) (base_of l f + n)

unfoldable pub dropped_bytes : Link → ℕ → Bool → Bool → ℕ → ℕ
dropped_bytes l i f t n = gone_of l i f t n + dropped_by (fate_of l i f t n) (base_of l f + n)

unfoldable pub skipped_bytes : Link → ℕ → Bool → Bool → ℕ → ℕ
skipped_bytes l i f t n = skipped_by (fate_of l i f t n) n
