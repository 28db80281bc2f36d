-- The multiplex frame (01, "The description and the frame it cuts"; 000, 6.2.3): part A of streams 0, 1, .., then part B of streams 0, 1, ..,
-- then zero padding to the capacity. Assumes nothing.
use Rattle.std.specs.Prelude.{ℕ, ◌+◌, ◌-◌, Bool, Result, Ok, Err, false, not, ◌||◌, List, [], ◌∷◌, ◌++◌, map, ltb, eqb, length, get_or, take, drop, replicate}
use Rattle.std.specs.List.{list_any}
use Rattle.laws.specs.Limits.{longest}
use Rattle.laws.specs.Pick.{pick}
use Rattle.laws.specs.Refuse.{Test, test, refused_with}
use Rattle.laws.specs.Written.{written}
use Rattle.description.specs.declared.Lengths.{Lengths}
use Rattle.description.specs.declared.Description.{Description}
use Rattle.places.specs.declared.Part.{Part}
use Rattle.moves.specs.Wrote.{Wrote, wrote_of}
use Rattle.description.specs.Answers.{handed}
use Rattle.description.specs.Bytes.{filled}
use Rattle.places.specs.Parts.{used_by, parts_of, bad_capacity, no_part}
use Rattle.refusal.specs.declared.Refusal.{Refusal}
use Rattle.refusal.specs.Refusal.{number_of}

-- a part of each stream, by the length of its part A
unfoldable pub each_of : (ℕ → List ℕ → List ℕ) → List Lengths → List (List ℕ) → List (List ℕ)
each_of part [] ss = []
each_of part (l ∷ ls) [] = []
each_of part (l ∷ ls) (s ∷ ss) = part l.a s ∷ each_of part ls ss

-- part A of a stream is its first bytes, as many as the description says; part B is the rest
abbrev pub parts_a : List Lengths → List (List ℕ) → List (List ℕ)
parts_a ls ss = each_of take ls ss

abbrev pub parts_b : List Lengths → List (List ℕ) → List (List ℕ)
parts_b ls ss = each_of drop ls ss

-- one behind the other
unfoldable pub joined : List (List ℕ) → List ℕ
joined [] = []
joined (s ∷ ss) = s ++ joined ss

-- the frame of these streams
unfoldable pub frame_of : ℕ → Description → List (List ℕ) → List ℕ
frame_of capacity d ss = joined (parts_a d.stream ss ++ parts_b d.stream ss) ++ replicate (capacity - used_by d) 0

-- the bytes that stand in a part of a frame
unfoldable pub bytes_in : List ℕ → Part → List ℕ
bytes_in frame x = take x.len (drop x.at frame)

-- stream i of a frame: its part A, then its part B
unfoldable pub stream_in : Description → List ℕ → ℕ → List ℕ
stream_in d frame i = bytes_in frame (get_or (parts_of d) i no_part) ++ bytes_in frame (get_or (parts_of d) (4 + i) no_part)

-- the bytes of each slot's stream
abbrev pub sizes : Description → List ℕ
sizes d = map (λ l. l.a + l.b) d.stream

-- some length is over the limit
abbrev pub any_long : List ℕ → Bool
any_long ns = list_any (λ n. ltb longest n) ns

-- some length is less than the one that the description has
abbrev pub any_less : List ℕ → List ℕ → Bool
any_less [] ns = false
any_less (k ∷ ks) [] = false
any_less (k ∷ ks) (n ∷ ns) = ltb n k || any_less ks ns

-- building, from streams of these lengths into so much room
unfoldable pub build_tests : ℕ → Description → ℕ → List ℕ → ℕ → List Test
build_tests capacity d mode ns room =
    test (bad_capacity capacity || any_long ns) 1
    ∷ handed false d mode
    (test (not (filled d (get_or ns 0 0) (get_or ns 1 0) (get_or ns 2 0) (get_or ns 3 0))) 11 ∷ test (ltb capacity (used_by d)) 12 ∷ test (ltb room capacity) 1 ∷ [])

unfoldable pub build_number : ℕ → Description → ℕ → List (List ℕ) → List ℕ → ℕ
build_number capacity d mode ss out = refused_with (build_tests capacity d mode (map length ss) (length out))

unfoldable pub build_for : ℕ → Description → ℕ → List (List ℕ) → List ℕ → Wrote
build_for capacity d mode ss out = wrote_of (build_number capacity d mode ss out) capacity

unfoldable pub frame_for : ℕ → Description → ℕ → List (List ℕ) → List ℕ → List ℕ
frame_for capacity d mode ss out = pick (eqb (build_number capacity d mode ss out) 0) (written out 0 (frame_of capacity d ss)) out

-- cutting a frame of so many bytes into outputs of these lengths
unfoldable pub cut_tests : ℕ → Description → ℕ → ℕ → List ℕ → List Test
cut_tests capacity d mode size rooms =
    test (bad_capacity capacity || not (eqb size capacity)) 1
    ∷ handed false d mode (test (ltb capacity (used_by d)) 12 ∷ test (any_less (sizes d) rooms) 1 ∷ [])

unfoldable pub cut_number : ℕ → Description → ℕ → List ℕ → List (List ℕ) → ℕ
cut_number capacity d mode frame outs = refused_with (cut_tests capacity d mode (length frame) (map length outs))

-- the answer of `cut` in 01's terms: its number, and the bytes of each stream, 0 where it is refused
pub record Streams : Type 0 where
  pub number : ℕ
  pub len : List ℕ

abbrev pub streams_in : Result (List ℕ) Refusal → Streams
streams_in (Ok ns) = record { number = 0; len = ns }
streams_in (Err r) = record { number = number_of r; len = 0 ∷ 0 ∷ 0 ∷ 0 ∷ [] }

unfoldable pub cut_for : ℕ → Description → ℕ → List ℕ → List (List ℕ) → Streams
cut_for capacity d mode frame outs =
    record {
      number = cut_number capacity d mode frame outs;
      len = pick (eqb (cut_number capacity d mode frame outs) 0) (sizes d) (0 ∷ 0 ∷ 0 ∷ 0 ∷ []);
    }

-- output i after the call
unfoldable pub stream_for : ℕ → Description → ℕ → List ℕ → List (List ℕ) → ℕ → List ℕ
stream_for capacity d mode frame outs i =
    pick (eqb (cut_number capacity d mode frame outs) 0) (written (get_or outs i []) 0 (stream_in d frame i)) (get_or outs i [])
