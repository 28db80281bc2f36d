-- The store of the queues and the receiver's buffer have 4,096 bytes for each id (01, "Packets, queues and receiver"). Assumes nothing.
use Rattle.std.specs.Prelude.{ℕ, ◌*◌, List, take, drop}

-- those of id
abbrev pub part_of : List ℕ → ℕ → List ℕ
part_of store id = take 4096 (drop (id * 4096) store)
