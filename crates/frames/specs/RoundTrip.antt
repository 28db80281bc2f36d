-- B5: a frame that was built is cut into the streams that it was built of, and the content of its padding does not matter (01, "The description and
-- the frame it cuts"). Four streams, four outputs and a description of four slots: arrays of four in the code, hence the premises on lengths.
-- Assumes nothing.
use Rattle.std.specs.Prelude.{ℕ, ◌≤◌, ◌<◌, ◌≡◌, List, [], map, length, get_or, take}
use Rattle.laws.specs.Written.{written}
use Rattle.description.specs.declared.Description.{Description}
use Rattle.places.specs.Parts.{used_by}
use Rattle.frames.specs.Frames.{build_for, frame_for, cut_for, stream_for}

-- what `build` leaves at the front of an output, as many bytes as it answers
abbrev pub left_in : ℕ → Description → ℕ → List (List ℕ) → List ℕ → List ℕ
left_in capacity d mode ss out = take (build_for capacity d mode ss out).length (frame_for capacity d mode ss out)

-- each output has room for its stream
abbrev pub Room : List (List ℕ) → List (List ℕ) → Type 0
Room ss outs = (i : ℕ) → i < 4 → length (get_or ss i []) ≤ length (get_or outs i [])

-- `cut` answers the lengths of these streams, and leaves each at the front of its output
pub record Cuts (capacity : ℕ) (d : Description) (mode : ℕ) (frame : List ℕ) (ss outs : List (List ℕ)) : Type 0 where
  pub answer : cut_for capacity d mode frame outs ≡ record { number = 0; len = map length ss }
  pub streams : (i : ℕ) → i < 4 → stream_for capacity d mode frame outs i ≡ written (get_or outs i []) 0 (get_or ss i [])

-- two frames cut alike, whatever the outputs
pub record CutAlike (capacity : ℕ) (d : Description) (mode : ℕ) (f g : List ℕ) (outs : List (List ℕ)) : Type 0 where
  pub answer : cut_for capacity d mode f outs ≡ cut_for capacity d mode g outs
  pub streams : (i : ℕ) → i < 4 → stream_for capacity d mode f outs i ≡ stream_for capacity d mode g outs i

pub record RoundTrip : Type 0 where
  -- what `build` accepts, into an output of any length, is cut into the streams again wherever they have room
  pub built_is_cut : (capacity : ℕ) (d : Description) (mode : ℕ) (ss outs : List (List ℕ)) (out : List ℕ)
      → length d.stream ≡ 4 → length ss ≡ 4 → length outs ≡ 4 → (build_for capacity d mode ss out).number ≡ 0 → Room ss outs
      → Cuts capacity d mode (left_in capacity d mode ss out) ss outs
  -- frames of one length that agree in the bytes of all parts are cut alike: refused alike, or into the same streams
  pub padding_free : (capacity : ℕ) (d : Description) (mode : ℕ) (f g : List ℕ) (outs : List (List ℕ))
      → length d.stream ≡ 4 → length f ≡ length g → take (used_by d) f ≡ take (used_by d) g → CutAlike capacity d mode f g outs
