-- A frame as it is built: what its tests say of the streams, and what the call answers and leaves. Assumes nothing.
use mathlib.Core.Path.{◌≡◌, refl, sym, ap, ◌∙◌}
use mathlib.Core.List.{List, [], ◌∷◌, ◌++◌}
use Prim.Native.Nat.{ℕ, ◌+◌, ◌-◌, ◌≤◌}
use native.Mathlib.Omega.{arith}
use borrow.Author.Tests.{ltb-false, not-false, ne_eqb}
use lib.Dec.{lit<}
use lib.ListN.{length, length-replicate, replicate}
use Rattle.laws.specs.Refuse.{refused_with}
use Rattle.laws.specs.Written.{written}
use Rattle.laws.proofs.Refuse.{free}
use Rattle.laws.proofs.Written.{write_next, written_length}
use Rattle.moves.specs.Moves.{placed, Puts}
use Rattle.moves.proofs.Turns.{placed_is}
use Rattle.description.specs.declared.Description.{Description}
use Rattle.description.specs.Answers.{handed}
use Rattle.places.specs.Parts.{used_by}
use Rattle.description.proofs.Filled.{filled_each}
use Rattle.places.proofs.Placing.{lengths_eight}
use Rattle.frames.specs.Frames.{parts_a, parts_b, joined, frame_of, build_tests, build_number, build_for, frame_for}
use Rattle.frames.specs.Ready.{all_a, all_b, Ready}

pub all_used : (d : Description) → length d.stream ≡ 4 → all_a d + all_b d ≡ used_by d
unfolding used_by
all_used d n = rw (lengths_eight d n) (omega arith)

module _ (capacity : ℕ) (d : Description) (mode : ℕ) (s0 s1 s2 s3 : List ℕ) (room n : ℕ) (size : length d.stream ≡ 4)
    (e : n ≡ refused_with (build_tests capacity d mode (length s0 ∷ length s1 ∷ length s2 ∷ length s3 ∷ []) room)) where
  pub ready_of : n ≡ 0 → Ready d s0 s1 s2 s3 room × (all_a d + all_b d ≤ capacity) × (capacity ≤ room)
  unfolding build_tests handed
  ready_of z =
      let ns = length s0 ∷ length s1 ∷ length s2 ∷ length s3 ∷ [] in
      let f = free (build_tests capacity d mode ns room) (lit< tt, (lit< tt, (lit< tt, (lit< tt, (lit< tt, (lit< tt, (lit< tt, tt))))))) (sym e ∙ z) in
      let w = filled_each d (length s0) (length s1) (length s2) (length s3) (not-false _ f.1.1.1.1.0) in
      let u : used_by d ≤ capacity = ltb-false capacity (used_by d) f.1.1.1.1.1.0 in
      let c : capacity ≤ room = ltb-false room capacity f.1.1.1.1.1.1.0 in
      let k = all_used d size in
      (record { n0 = w.0; n1 = w.1; n2 = w.2; n3 = w.3; fits = omega arith }, omega arith, c)

-- the streams end within the capacity
pub within : (d : Description) (capacity end : ℕ) → all_a d + all_b d ≤ capacity → end ≡ all_a d + all_b d → end ≤ capacity
within d capacity end h e = omega arith

module _ (capacity : ℕ) (d : Description) (mode : ℕ) (s0 s1 s2 s3 out : List ℕ) (n : ℕ)
    (e : n ≡ refused_with (build_tests capacity d mode (length s0 ∷ length s1 ∷ length s2 ∷ length s3 ∷ []) (length out))) where
  pub build_refused : (n ≡ 0 → ⊥)
      → (record { number = n; length = 0 } ≡ build_for capacity d mode (s0 ∷ s1 ∷ s2 ∷ s3 ∷ []) out) × (out ≡ frame_for capacity d mode (s0 ∷ s1 ∷ s2 ∷ s3 ∷ []) out)
  unfolding build_for frame_for build_number
  build_refused z = rw (← e, ne_eqb n 0 z) (refl, refl)

  pub build_done : n ≡ 0 → length d.stream ≡ 4 → (e1 e2 : List ℕ) (end : ℕ)
      → (end ≡ all_a d + all_b d) × Puts out 0 (joined (parts_a d.stream (s0 ∷ s1 ∷ s2 ∷ s3 ∷ []) ++ parts_b d.stream (s0 ∷ s1 ∷ s2 ∷ s3 ∷ []))) e1 end
      → e2 ≡ placed e1 end (replicate (capacity - end) 0)
      → (record { number = 0; length = capacity } ≡ build_for capacity d mode (s0 ∷ s1 ∷ s2 ∷ s3 ∷ []) out)
      × (e2 ≡ frame_for capacity d mode (s0 ∷ s1 ∷ s2 ∷ s3 ∷ []) out)
  unfolding build_for frame_for build_number frame_of
  build_done z size e1 e2 end p q =
      let ss = s0 ∷ s1 ∷ s2 ∷ s3 ∷ [] in
      let P = joined (parts_a d.stream ss ++ parts_b d.stream ss) in
      let Z : List ℕ = replicate (capacity - end) 0 in
      let w = ready_of capacity d mode s0 s1 s2 s3 (length out) n size e z in
      let w1 = w.1 in
      let w2 = w.2 in
      let p0 = p.0 in
      let m = p.1.end in
      let u : end ≡ used_by d = p0 ∙ all_used d size in
      let l : length e1 ≡ length out = ap length p.1.text ∙ written_length out 0 P (omega arith) in
      let k : length Z ≡ capacity - end = length-replicate (capacity - end) 0 in
      let t : placed e1 end Z ≡ written e1 end Z = placed_is e1 end Z (omega arith) in
      let v : written e1 end Z ≡ written out 0 (P ++ Z) = write_next out e1 0 P Z end p.1.end (omega arith) p.1.text in
      rw (← e, z) (refl, q ∙ t ∙ v ∙ ap (λ (j : ℕ). written out 0 (P ++ replicate {A = ℕ} (capacity - j) 0)) u)
