-- What the private functions that write a frame ask of their callers: streams of the lengths that the description has, and room for them all. No promise of
-- a public call names it. Assumes nothing.
use Rattle.std.specs.Prelude.{ℕ, ◌+◌, ◌≤◌, List, [], ◌∷◌, ◌++◌, ◌≡◌, length, get_or}
use Rattle.description.specs.declared.Lengths.{Lengths}
use Rattle.description.specs.declared.Description.{Description}
use Rattle.description.specs.Bytes.{no_stream, said_of}
use Rattle.frames.specs.Frames.{parts_a, parts_b, joined}

-- the lengths of slot i
abbrev pub slot : Description → ℕ → Lengths
slot d i = get_or d.stream i no_stream

-- the bytes of all parts A, and of all parts B
abbrev pub all_a : Description → ℕ
all_a d = (slot d 0).a + (slot d 1).a + (slot d 2).a + (slot d 3).a

abbrev pub all_b : Description → ℕ
all_b d = (slot d 0).b + (slot d 1).b + (slot d 2).b + (slot d 3).b

-- all parts A of four streams, and behind them all parts B
abbrev pub all_parts : Description → List ℕ → List ℕ → List ℕ → List ℕ → List ℕ
all_parts d s0 s1 s2 s3 = joined (parts_a d.stream (s0 ∷ s1 ∷ s2 ∷ s3 ∷ []) ++ parts_b d.stream (s0 ∷ s1 ∷ s2 ∷ s3 ∷ []))

pub record Ready (d : Description) (s0 s1 s2 s3 : List ℕ) (room : ℕ) : Type 0 where
  pub n0 : length s0 ≡ said_of d 0
  pub n1 : length s1 ≡ said_of d 1
  pub n2 : length s2 ≡ said_of d 2
  pub n3 : length s3 ≡ said_of d 3
  pub fits : all_a d + all_b d ≤ room
