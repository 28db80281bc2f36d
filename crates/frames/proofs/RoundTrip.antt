-- `cut` of `build` gives the streams back, and the content of the padding does not matter. Assumes nothing.
use mathlib.Core.Path.{◌≡◌, refl, sym, ap, ap₂, ◌∙◌}
use mathlib.Core.Bool.{Bool, true, false, not}
use mathlib.Core.List.{List, [], ◌∷◌, ◌++◌, map, append_assoc}
use Prim.Native.Nat.{ℕ, zero, suc, ◌+◌, ◌-◌, ◌≤◌, ◌<◌}
use native.Mathlib.Omega.{arith}
use borrow.Author.Tests.{le-ltb, ltb-false, eq-eqb, eqb-true, not-false}
use lib.Dec.{eqb, lit<}
use lib.ListN.{length, get_or, take, drop, replicate, length-append, length-drop, length-replicate, take-append-drop, get_or-map}
use lib.Seq.{take_at, drop_at, drop-drop, length-take-le, take-append-le, drop-append-le}
use Rattle.laws.specs.Pick.{pick}
use Rattle.laws.specs.Sum.{sum}
use Rattle.laws.specs.Refuse.{refused_with}
use Rattle.laws.specs.Written.{written}
use Rattle.laws.proofs.Refuse.{free}
use Rattle.description.specs.declared.Lengths.{Lengths}
use Rattle.description.specs.declared.Description.{Description}
use Rattle.description.specs.Bytes.{said_of}
use Rattle.places.specs.declared.Part.{Part}
use Rattle.description.specs.Answers.{handed}
use Rattle.places.specs.Parts.{lengths_in, used_by, parts_from, parts_of, bad_capacity, no_part}
use Rattle.places.proofs.Placing.{lengths_eight}
use Rattle.description.proofs.Tests.{four}
use Rattle.description.proofs.Writing.{neither}
use Rattle.frames.specs.Frames.{each_of, parts_a, parts_b, joined, frame_of, bytes_in, stream_in, any_long, any_less, build_tests, build_number, build_for, frame_for, cut_tests, cut_number, cut_for, stream_for}
use Rattle.frames.specs.Ready.{slot, all_a, all_b, Ready}
use Rattle.frames.proofs.Building.{all_used, ready_of}
use Rattle.frames.proofs.Ways.{sizes_four}
use Rattle.frames.proofs.Cutting.{eight, parts_eight, within}

-- pieces, one behind the other from a place on: the parts of their lengths cut them out again, whatever stands behind
pieces_back : (f q : List ℕ) (xs : List (List ℕ)) (from : ℕ) → drop from f ≡ joined xs ++ q → map (bytes_in f) (parts_from from (map length xs)) ≡ xs
unfolding joined parts_from bytes_in
pieces_back f q [] from e = refl
pieces_back f q (x ∷ xs) from e =
    let s : drop from f ≡ x ++ (joined xs ++ q) = e ∙ append_assoc x (joined xs) q in
    let a : take (length x) (drop from f) ≡ x = ap (take (length x)) s ∙ take_at x (joined xs ++ q) (length x) refl in
    let b : drop (from + length x) f ≡ joined xs ++ q = sym (drop-drop (length x) from f) ∙ ap (drop (length x)) s ∙ drop_at x (joined xs ++ q) (length x) refl in
    ap₂ (λ (h : List ℕ) (t : List (List ℕ)). h ∷ t) a (pieces_back f q xs (from + length x) b)

length_joined : (xs : List (List ℕ)) → length (joined xs) ≡ sum (map length xs)
unfolding joined
length_joined [] = refl
length_joined (x ∷ xs) = length-append x (joined xs) ∙ ap (λ (n : ℕ). length x + n) (length_joined xs)

module _ (d : Description) (s0 s1 s2 s3 : List ℕ) (size : length d.stream ≡ 4)
    (n0 : length s0 ≡ said_of d 0) (n1 : length s1 ≡ said_of d 1) (n2 : length s2 ≡ said_of d 2) (n3 : length s3 ≡ said_of d 3) where
  pieces : List (List ℕ)
  pieces =
      take (slot d 0).a s0 ∷ take (slot d 1).a s1 ∷ take (slot d 2).a s2 ∷ take (slot d 3).a s3
      ∷ drop (slot d 0).a s0 ∷ drop (slot d 1).a s1 ∷ drop (slot d 2).a s2 ∷ drop (slot d 3).a s3 ∷ []

  pieces_four : parts_a d.stream (s0 ∷ s1 ∷ s2 ∷ s3 ∷ []) ++ parts_b d.stream (s0 ∷ s1 ∷ s2 ∷ s3 ∷ []) ≡ pieces
  unfolding each_of pieces
  pieces_four =
      ap (λ (ls : List Lengths). each_of take ls (s0 ∷ s1 ∷ s2 ∷ s3 ∷ []) ++ each_of drop ls (s0 ∷ s1 ∷ s2 ∷ s3 ∷ [])) (four d.stream size)

  part_a_law : (i : ℕ) (s : List ℕ) → length s ≡ said_of d i → length (take (slot d i).a s) ≡ (slot d i).a
  part_a_law i s n = length-take-le (slot d i).a s (omega arith)

  part_b_law : (i : ℕ) (s : List ℕ) → length s ≡ said_of d i → length (drop (slot d i).a s) ≡ (slot d i).b
  part_b_law i s n = length-drop (slot d i).a s ∙ omega arith

  lengths_are : map length pieces ≡ lengths_in d
  unfolding pieces
  lengths_are =
      rw (part_a_law 0 s0 n0, part_a_law 1 s1 n1, part_a_law 2 s2 n2, part_a_law 3 s3 n3, part_b_law 0 s0 n0, part_b_law 1 s1 n1, part_b_law 2 s2 n2, part_b_law 3 s3 n3)
      (sym (lengths_eight d size))

  glued : (i : ℕ) → i < 4 → get_or pieces i [] ++ get_or pieces (4 + i) [] ≡ get_or (s0 ∷ s1 ∷ s2 ∷ s3 ∷ []) i []
  unfolding pieces
  glued zero h = take-append-drop (slot d 0).a s0
  glued (suc zero) h = take-append-drop (slot d 1).a s1
  glued (suc (suc zero)) h = take-append-drop (slot d 2).a s2
  glued (suc (suc (suc zero))) h = take-append-drop (slot d 3).a s3
  glued (suc (suc (suc (suc i)))) h = absurd (omega arith)

  -- a frame of these streams, whatever stands behind the parts
  framed : List ℕ → List ℕ
  framed q = joined (parts_a d.stream (s0 ∷ s1 ∷ s2 ∷ s3 ∷ []) ++ parts_b d.stream (s0 ∷ s1 ∷ s2 ∷ s3 ∷ [])) ++ q

  piece_at : (q : List ℕ) (i : ℕ) → bytes_in (framed q) (get_or (parts_of d) i no_part) ≡ get_or pieces i []
  unfolding parts_of bytes_in framed
  piece_at q i =
      let f = framed q in
      let m : map (bytes_in f) (parts_from 0 (lengths_in d)) ≡ pieces =
      ap (λ (ns : List ℕ). map (bytes_in f) (parts_from 0 ns)) (sym lengths_are) ∙ pieces_back f q pieces 0 (ap (λ (xs : List (List ℕ)). joined xs ++ q) pieces_four) in
      sym (get_or-map (bytes_in f) (parts_from 0 (lengths_in d)) i no_part) ∙ ap (λ (xs : List (List ℕ)). get_or xs i []) m

  pub stream_back : (q : List ℕ) (i : ℕ) → i < 4
      → stream_in d (joined (parts_a d.stream (s0 ∷ s1 ∷ s2 ∷ s3 ∷ []) ++ parts_b d.stream (s0 ∷ s1 ∷ s2 ∷ s3 ∷ [])) ++ q) i
      ≡ get_or (s0 ∷ s1 ∷ s2 ∷ s3 ∷ []) i []
  unfolding stream_in framed
  stream_back q i h = ap₂ (λ (x y : List ℕ). x ++ y) (piece_at q i) (piece_at q (4 + i)) ∙ glued i h

  -- the bytes of the parts
  pub joined_size : length (joined (parts_a d.stream (s0 ∷ s1 ∷ s2 ∷ s3 ∷ []) ++ parts_b d.stream (s0 ∷ s1 ∷ s2 ∷ s3 ∷ []))) ≡ used_by d
  unfolding used_by
  joined_size =
      ap (λ (xs : List (List ℕ)). length (joined xs)) pieces_four ∙ length_joined pieces ∙ ap sum lengths_are

no_less : (k0 k1 k2 k3 n0 n1 n2 n3 : ℕ) → k0 ≤ n0 → k1 ≤ n1 → k2 ≤ n2 → k3 ≤ n3
    → any_less (k0 ∷ k1 ∷ k2 ∷ k3 ∷ []) (n0 ∷ n1 ∷ n2 ∷ n3 ∷ []) ≡ false
no_less k0 k1 k2 k3 n0 n1 n2 n3 h0 h1 h2 h3 = rw (le-ltb n0 k0 h0, le-ltb n1 k1 h1, le-ltb n2 k2 h2, le-ltb n3 k3 h3)

module _ (capacity : ℕ) (d : Description) (mode : ℕ) (s0 s1 s2 s3 out : List ℕ) (size : length d.stream ≡ 4)
    (e : (build_for capacity d mode (s0 ∷ s1 ∷ s2 ∷ s3 ∷ []) out).number ≡ 0) where
  built : refused_with (build_tests capacity d mode (length s0 ∷ length s1 ∷ length s2 ∷ length s3 ∷ []) (length out)) ≡ 0
  unfolding build_for build_number
  built = e

  fit : Ready d s0 s1 s2 s3 (length out) × (all_a d + all_b d ≤ capacity) × (capacity ≤ length out)
  fit = ready_of capacity d mode s0 s1 s2 s3 (length out) 0 size (sym built) refl

  frame_size : length (frame_of capacity d (s0 ∷ s1 ∷ s2 ∷ s3 ∷ [])) ≡ capacity
  unfolding frame_of
  frame_size =
      let r = fit.0 in
      let J = joined (parts_a d.stream (s0 ∷ s1 ∷ s2 ∷ s3 ∷ []) ++ parts_b d.stream (s0 ∷ s1 ∷ s2 ∷ s3 ∷ [])) in
      let Z : List ℕ = replicate (capacity - used_by d) 0 in
      let l = length-append J Z in
      let j = joined_size d s0 s1 s2 s3 size r.n0 r.n1 r.n2 r.n3 in
      let z : length Z ≡ capacity - used_by d = length-replicate (capacity - used_by d) 0 in
      let u = all_used d size in
      let h = fit.1 in
      omega arith

  -- the frame at the front of the output
  pub frame_there : take capacity (frame_for capacity d mode (s0 ∷ s1 ∷ s2 ∷ s3 ∷ []) out) ≡ frame_of capacity d (s0 ∷ s1 ∷ s2 ∷ s3 ∷ [])
  unfolding frame_for build_number written
  frame_there =
      let F = frame_of capacity d (s0 ∷ s1 ∷ s2 ∷ s3 ∷ []) in
      rw built (take_at F (drop (0 + length F) out) capacity frame_size)

  module _ (o0 o1 o2 o3 : List ℕ) (r0 : length s0 ≤ length o0) (r1 : length s1 ≤ length o1) (r2 : length s2 ≤ length o2) (r3 : length s3 ≤ length o3) where
    taken : cut_number capacity d mode (frame_of capacity d (s0 ∷ s1 ∷ s2 ∷ s3 ∷ [])) (o0 ∷ o1 ∷ o2 ∷ o3 ∷ []) ≡ 0
    unfolding cut_number cut_tests build_tests handed
    taken =
        let ns = length s0 ∷ length s1 ∷ length s2 ∷ length s3 ∷ [] in
        let f = free (build_tests capacity d mode ns (length out)) (lit< tt, (lit< tt, (lit< tt, (lit< tt, (lit< tt, (lit< tt, (lit< tt, tt))))))) built in
        let b = (neither (bad_capacity capacity) (any_long ns) f.0).0 in
        let w = fit.0 in
        let m0 = w.n0 in
        let m1 = w.n1 in
        let m2 = w.n2 in
        let m3 = w.n3 in
        let l = no_less (said_of d 0) (said_of d 1) (said_of d 2) (said_of d 3) (length o0) (length o1) (length o2) (length o3)
        (omega arith) (omega arith) (omega arith) (omega arith) in
        rw (b, frame_size, eq-eqb capacity capacity refl, f.1.0, f.1.1.0, f.1.1.1.0, f.1.1.1.1.1.0, sizes_four d size, l)

    -- `cut` of `build` answers the streams' lengths
    pub cut_build : cut_for capacity d mode (take capacity (frame_for capacity d mode (s0 ∷ s1 ∷ s2 ∷ s3 ∷ []) out)) (o0 ∷ o1 ∷ o2 ∷ o3 ∷ [])
        ≡ record { number = 0; len = length s0 ∷ length s1 ∷ length s2 ∷ length s3 ∷ [] }
    unfolding cut_for
    cut_build =
        let w = fit.0 in
        rw (frame_there, taken, sizes_four d size, w.n0, w.n1, w.n2, w.n3)

    -- and leaves each stream at the front of its output
    pub cut_build_stream : (i : ℕ) → i < 4
        → stream_for capacity d mode (take capacity (frame_for capacity d mode (s0 ∷ s1 ∷ s2 ∷ s3 ∷ []) out)) (o0 ∷ o1 ∷ o2 ∷ o3 ∷ []) i
        ≡ written (get_or (o0 ∷ o1 ∷ o2 ∷ o3 ∷ []) i []) 0 (get_or (s0 ∷ s1 ∷ s2 ∷ s3 ∷ []) i [])
    unfolding stream_for frame_of
    cut_build_stream i h =
        let w = fit.0 in
        let b = stream_back d s0 s1 s2 s3 size w.n0 w.n1 w.n2 w.n3 (replicate (capacity - used_by d) 0) i h in
        rw (frame_there, taken) (ap (written (get_or (o0 ∷ o1 ∷ o2 ∷ o3 ∷ []) i []) 0) b)

-- a part within the first n bytes is the same in every frame that has them
same_bytes : (n : ℕ) (f : List ℕ) (x : Part) → n ≤ length f → x.at + x.len ≤ n → bytes_in f x ≡ bytes_in (take n f) x
unfolding bytes_in
same_bytes n f x h k =
    let l : length (take n f) ≡ n = length-take-le n f h in
    let m = length-drop x.at (take n f) in
    let a : drop x.at (take n f ++ drop n f) ≡ drop x.at (take n f) ++ drop n f = drop-append-le x.at (take n f) (drop n f) (omega arith) in
    let b : take x.len (drop x.at (take n f) ++ drop n f) ≡ take x.len (drop x.at (take n f)) =
    take-append-le x.len (drop x.at (take n f)) (drop n f) (omega arith) in
    ap (λ (g : List ℕ). take x.len (drop x.at g)) (sym (take-append-drop n f)) ∙ ap (take x.len) a ∙ b

-- the content of the padding does not matter
pub padding_free : (d : Description) (f g : List ℕ) → length d.stream ≡ 4 → used_by d ≤ length f → length f ≡ length g
    → take (used_by d) f ≡ take (used_by d) g → (i : ℕ) → i < 4 → stream_in d f i ≡ stream_in d g i
unfolding stream_in
padding_free d f g size u l e i h =
    let w = within d (used_by d) (said_of d i) (let k = all_used d size in omega arith) i h (omega arith) in
    rw (parts_eight d size)
    (ap₂ (λ (x y : List ℕ). x ++ y)
    (same (get_or (eight d) i no_part) w.0)
    (same (get_or (eight d) (4 + i) no_part) w.1))
  where
    same : (x : Part) → x.at + x.len ≤ used_by d → bytes_in f x ≡ bytes_in g x
    same x k = same_bytes (used_by d) f x u k ∙ ap (λ (s : List ℕ). bytes_in s x) e ∙ sym (same_bytes (used_by d) g x (omega arith) k)

module _ (capacity : ℕ) (d : Description) (mode : ℕ) (f g : List ℕ) (outs : List (List ℕ)) (size : length d.stream ≡ 4)
    (l : length f ≡ length g) (e : take (used_by d) f ≡ take (used_by d) g) where
  same_number : cut_number capacity d mode f outs ≡ cut_number capacity d mode g outs
  unfolding cut_number
  same_number = ap (λ (n : ℕ). refused_with (cut_tests capacity d mode n (map length outs))) l

  pub padding_answer : cut_for capacity d mode f outs ≡ cut_for capacity d mode g outs
  unfolding cut_for
  padding_answer = rw same_number

  used_fits : cut_number capacity d mode f outs ≡ 0 → used_by d ≤ length f
  unfolding cut_number cut_tests handed
  used_fits z =
      let t = free (cut_tests capacity d mode (length f) (map length outs)) (lit< tt, (lit< tt, (lit< tt, (lit< tt, (lit< tt, (lit< tt, tt)))))) z in
      let c = eqb-true (length f) capacity (not-false (eqb (length f) capacity) (neither (bad_capacity capacity) (not (eqb (length f) capacity)) t.0).1) in
      let u = ltb-false capacity (used_by d) t.1.1.1.1.0 in
      omega arith

  pub padding_stream : (i : ℕ) → i < 4 → stream_for capacity d mode f outs i ≡ stream_for capacity d mode g outs i
  unfolding stream_for
  padding_stream i h = rw (← same_number) (go (eqb (cut_number capacity d mode f outs) 0) refl)
    where
      o : List ℕ
      o = get_or outs i []

      go : (b : Bool) → eqb (cut_number capacity d mode f outs) 0 ≡ b → pick b (written o 0 (stream_in d f i)) o ≡ pick b (written o 0 (stream_in d g i)) o
      go true p = ap (written o 0) (padding_free d f g size (used_fits (eqb-true (cut_number capacity d mode f outs) 0 p)) l e i h)
      go false p = refl
