-- Packets that do not arrive (01, the receiver's paragraph). Assumes nothing.
use Rattle.std.specs.Prelude.{ℕ, ◌+◌, ◌≤◌, ◌≡◌, List, [], ◌∷◌, ◌++◌, length, take, drop}
use Rattle.laws.specs.Pick.{pick}
use Rattle.packet.specs.Packet.{Packet}
use Rattle.demand.specs.Bytes.{of_id}

-- what was sent and came, then a gap: what was sent in it, and what came of that or in its place
pub record Stretch : Type 0 where
  pub whole : List (List ℕ)
  pub gap : List (List ℕ)
  pub instead : List (List ℕ)

-- one stretch behind the other, and at the end packets that all came: what was sent, and what came
unfoldable pub sent_over : List Stretch → List (List ℕ) → List (List ℕ)
sent_over [] last = last
sent_over (t ∷ ts) last = t.whole ++ (t.gap ++ sent_over ts last)

unfoldable pub came_over : List Stretch → List (List ℕ) → List (List ℕ)
came_over [] last = last
came_over (t ∷ ts) last = t.whole ++ (t.instead ++ came_over ts last)

-- in each gap 1 to 7 packets of id were sent, and none came; in front of each gap one came. What is in the place of others does not matter:
-- damaged packets, or those of other ids
abbrev pub Short : ℕ → ℕ → List Stretch → Type 0
Short p id [] = Unit {0}
Short p id (t ∷ ts) =
    (1 ≤ length (of_id p id t.whole)) × (1 ≤ length (of_id p id t.gap)) × (length (of_id p id t.gap) ≤ 7) × (of_id p id t.instead ≡ []) × Short p id ts

-- the first flags and the last flags of packets: the units that they begin and that they end
unfoldable pub begins : List Packet → ℕ
begins [] = 0
begins (k ∷ ks) = pick k.chunk.first 1 0 + begins ks

unfoldable pub ends : List Packet → ℕ
ends [] = 0
ends (k ∷ ks) = pick k.chunk.last 1 0 + ends ks

-- of the units us of id, sent in order, those that begin and end in ss, where before was sent earlier
unfoldable pub within : ℕ → ℕ → List (List ℕ) → List (List ℕ) → List (List ℕ) → List (List ℕ)
within p id us before ss = drop (begins (of_id p id before)) (take (ends (of_id p id (before ++ ss))) us)

-- those that no gap cut
unfoldable pub uncut : ℕ → ℕ → List (List ℕ) → List (List ℕ) → List Stretch → List (List ℕ) → List (List ℕ)
uncut p id us before [] last = within p id us before last
uncut p id us before (t ∷ ts) last = within p id us before t.whole ++ uncut p id us (before ++ (t.whole ++ t.gap)) ts last
