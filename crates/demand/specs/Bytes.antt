-- Packets as they stand in a written frame, and what is read of them. Assumes nothing.
use Rattle.std.specs.Prelude.{ℕ, zero, suc, ◌+◌, ◌%◌, List, [], ◌∷◌, ◌++◌, eqb, take, drop}
use Rattle.laws.specs.Pick.{pick}
use Rattle.packet.specs.Packet.{Chunk, Packet, decode}
use Rattle.packet.specs.Calls.{check_for}

-- n packets of w bytes, one behind the other
unfoldable pub split : ℕ → ℕ → List ℕ → List (List ℕ)
split w zero s = []
split w (suc n) s = take w s ∷ split w n (drop w s)

-- what those of the byte strings say that are packets of p data bytes, the others left out
unfoldable pub readable : ℕ → List (List ℕ) → List Packet
readable p [] = []
readable p (s ∷ ss) = pick (eqb (check_for p s) 0) (decode p s ∷ []) [] ++ readable p ss

-- those of id
unfoldable pub own : ℕ → List Packet → List Packet
own id [] = []
own id (k ∷ ks) = pick (eqb id k.id) (k ∷ []) [] ++ own id ks

-- the packets of id among byte strings
abbrev pub of_id : ℕ → ℕ → List (List ℕ) → List Packet
of_id p id ss = own id (readable p ss)

-- what packets carry
unfoldable pub saying : List Packet → List Chunk
saying [] = []
saying (k ∷ ks) = k.chunk ∷ saying ks

-- the continuity index after n packets
unfoldable pub index_after : ℕ → ℕ → ℕ
index_after zero i = i
index_after (suc n) i = (index_after n i + 1) % 8

-- packets of id that carry these, the first with index i
unfoldable pub numbered : ℕ → ℕ → List Chunk → List Packet
numbered id i [] = []
numbered id i (c ∷ cs) = record { id = id; index = i; chunk = c } ∷ numbered id ((i + 1) % 8) cs
