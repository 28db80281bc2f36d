-- B5, from RoundTrip.antt: four streams and four outputs are the ones it names. Assumes nothing.
use Prim.Native.Nat.{ℕ, ◌≤◌}
use mathlib.Core.Path.{◌≡◌}
use mathlib.Core.List.{List, [], ◌∷◌}
use native.Mathlib.Omega.{arith}
use lib.Dec.{lit<}
use lib.ListN.{length, take}
use Rattle.description.specs.declared.Description.{Description}
use Rattle.frames.specs.Frames.{build_for, frame_for}
use Rattle.frames.specs.RoundTrip.{left_in, Room, Cuts, RoundTrip}
use Rattle.frames.proofs.RoundTrip.{cut_build, cut_build_stream, padding_answer, padding_stream}

-- an answer 0 has the capacity as its length
left_is : (capacity : ℕ) (d : Description) (mode : ℕ) (ss : List (List ℕ)) (out : List ℕ) → (build_for capacity d mode ss out).number ≡ 0
    → left_in capacity d mode ss out ≡ take capacity (frame_for capacity d mode ss out)
unfolding build_for
left_is capacity d mode ss out e = rw e

module _ (capacity : ℕ) (d : Description) (mode : ℕ) (out : List ℕ) (size : length d.stream ≡ 4) where
  built_four : (s0 s1 s2 s3 o0 o1 o2 o3 : List ℕ) → (build_for capacity d mode (s0 ∷ s1 ∷ s2 ∷ s3 ∷ []) out).number ≡ 0
      → Room (s0 ∷ s1 ∷ s2 ∷ s3 ∷ []) (o0 ∷ o1 ∷ o2 ∷ o3 ∷ [])
      → Cuts capacity d mode (left_in capacity d mode (s0 ∷ s1 ∷ s2 ∷ s3 ∷ []) out) (s0 ∷ s1 ∷ s2 ∷ s3 ∷ []) (o0 ∷ o1 ∷ o2 ∷ o3 ∷ [])
  built_four s0 s1 s2 s3 o0 o1 o2 o3 e r =
      let r0 : length s0 ≤ length o0 = r 0 (lit< tt) in
      let r1 : length s1 ≤ length o1 = r 1 (lit< tt) in
      let r2 : length s2 ≤ length o2 = r 2 (lit< tt) in
      let r3 : length s3 ≤ length o3 = r 3 (lit< tt) in
      rw (left_is capacity d mode (s0 ∷ s1 ∷ s2 ∷ s3 ∷ []) out e)
      (record {
        answer = cut_build capacity d mode s0 s1 s2 s3 out size e o0 o1 o2 o3 r0 r1 r2 r3;
        streams = cut_build_stream capacity d mode s0 s1 s2 s3 out size e o0 o1 o2 o3 r0 r1 r2 r3;
      })

  built_outs : (s0 s1 s2 s3 : List ℕ) (outs : List (List ℕ)) → length outs ≡ 4 → (build_for capacity d mode (s0 ∷ s1 ∷ s2 ∷ s3 ∷ []) out).number ≡ 0
      → Room (s0 ∷ s1 ∷ s2 ∷ s3 ∷ []) outs → Cuts capacity d mode (left_in capacity d mode (s0 ∷ s1 ∷ s2 ∷ s3 ∷ []) out) (s0 ∷ s1 ∷ s2 ∷ s3 ∷ []) outs
  built_outs s0 s1 s2 s3 (o0 ∷ o1 ∷ o2 ∷ o3 ∷ []) n e r = built_four s0 s1 s2 s3 o0 o1 o2 o3 e r
  built_outs s0 s1 s2 s3 [] n e r = absurd (omega arith)
  built_outs s0 s1 s2 s3 (o0 ∷ []) n e r = absurd (omega arith)
  built_outs s0 s1 s2 s3 (o0 ∷ o1 ∷ []) n e r = absurd (omega arith)
  built_outs s0 s1 s2 s3 (o0 ∷ o1 ∷ o2 ∷ []) n e r = absurd (omega arith)
  built_outs s0 s1 s2 s3 (o0 ∷ o1 ∷ o2 ∷ o3 ∷ o ∷ os) n e r = absurd (omega arith)

  built_all : (ss outs : List (List ℕ)) → length ss ≡ 4 → length outs ≡ 4 → (build_for capacity d mode ss out).number ≡ 0 → Room ss outs
      → Cuts capacity d mode (left_in capacity d mode ss out) ss outs
  built_all (s0 ∷ s1 ∷ s2 ∷ s3 ∷ []) outs m n e r = built_outs s0 s1 s2 s3 outs n e r
  built_all [] outs m n e r = absurd (omega arith)
  built_all (s0 ∷ []) outs m n e r = absurd (omega arith)
  built_all (s0 ∷ s1 ∷ []) outs m n e r = absurd (omega arith)
  built_all (s0 ∷ s1 ∷ s2 ∷ []) outs m n e r = absurd (omega arith)
  built_all (s0 ∷ s1 ∷ s2 ∷ s3 ∷ s ∷ ss) outs m n e r = absurd (omega arith)

pub round_trip : RoundTrip
round_trip = record {
  built_is_cut = λ capacity d mode ss outs out size m n e r. built_all capacity d mode out size ss outs m n e r;
  padding_free = λ capacity d mode f g outs size l e.
      record { answer = padding_answer capacity d mode f g outs size l e; streams = padding_stream capacity d mode f g outs size l e };
}
