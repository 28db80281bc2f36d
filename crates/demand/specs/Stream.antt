-- The packets of a run, id by id (01, "Packets, queues and receiver"): of its calls and what each answered. Assumes nothing.
use Rattle.std.specs.Prelude.{ℕ, ◌<◌, ◌≤◌, ◌≡◌, List, [], ◌∷◌, false, length, replicate}
use Rattle.packet.specs.Packet.{nothing}
use Rattle.row.specs.Content.{chunks}
use Rattle.demand.specs.Bytes.{of_id, numbered}
use Rattle.demand.specs.Log.{Event, accepted_of, sent_of}

-- units of 1 to 4,096 bytes
abbrev pub AllSome : List (List ℕ) → Type 0
AllSome [] = Unit {0}
AllSome (u ∷ us) = (1 ≤ length u) × AllSome us

abbrev pub AllFit : List (List ℕ) → Type 0
AllFit [] = Unit {0}
AllFit (u ∷ us) = (length u ≤ 4096) × AllFit us

pub record Fair (us : List (List ℕ)) : Type 0 where
  pub some : AllSome us
  pub fit : AllFit us

-- how many packets of id were written
abbrev pub count_of : ℕ → ℕ → List Event → ℕ
count_of p id es = length (of_id p id (sent_of es))

-- of a run in which p stands
pub record Stream (p : ℕ) (es : List Event) : Type 0 where
  -- the packets of queue id carry the units that it accepted, in order of loading, one wholly before the next, and are numbered from 0
  pub units : (id : ℕ) → id < 3 → of_id p id (sent_of es) ≡ numbered id 0 (chunks p (count_of p id es) false (accepted_of id es))
  -- those of id 3 are null packets, and are numbered from 0
  pub filler : of_id p 3 (sent_of es) ≡ numbered 3 0 (replicate (count_of p 3 es) nothing)
  -- what was accepted
  pub fair : (id : ℕ) → Fair (accepted_of id es)
  pub low : (id : ℕ) → 1 ≤ length (accepted_of id es) → 1 ≤ p
