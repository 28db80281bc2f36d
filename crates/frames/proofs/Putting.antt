-- The pieces of a frame as they are written, one behind the other. Assumes nothing.
use mathlib.Core.Path.{◌≡◌, refl, sym, ap, ap₂, ◌∙◌}
use mathlib.Core.List.{List, [], ◌∷◌, ◌++◌, append-nil, append_assoc}
use Prim.Native.Nat.{ℕ, ◌+◌, ◌-◌, ◌≤◌}
use native.Mathlib.Omega.{arith}
use lib.ListN.{length, take, drop, length-append, length-drop}
use lib.Seq.{take_all, length-take-le}
use Rattle.laws.proofs.Written.{written_length}
use Rattle.description.specs.declared.Lengths.{Lengths}
use Rattle.description.specs.declared.Description.{Description}
use Rattle.description.proofs.Tests.{four}
use Rattle.frames.specs.Frames.{each_of, parts_a, parts_b, joined}
use Rattle.frames.specs.Ready.{slot, all_a, all_b, Ready}
use Rattle.moves.specs.Moves.{placed, behind, Puts}
use Rattle.moves.proofs.Pieces.{puts, puts_then, puts_same}

-- four pieces that fit, each written behind the last
pub four_put : (d e0 e1 e2 e3 x0 x1 x2 x3 : List ℕ) (at n0 n1 n2 n3 : ℕ) → at + (length x0 + length x1 + length x2 + length x3) ≤ length d
    → (n0 ≡ behind d at x0) × (e0 ≡ placed d at x0) → (n1 ≡ behind e0 n0 x1) × (e1 ≡ placed e0 n0 x1)
    → (n2 ≡ behind e1 n1 x2) × (e2 ≡ placed e1 n1 x2) → (n3 ≡ behind e2 n2 x3) × (e3 ≡ placed e2 n2 x3)
    → Puts d at (joined (x0 ∷ x1 ∷ x2 ∷ x3 ∷ [])) e3 n3
unfolding joined
four_put d e0 e1 e2 e3 x0 x1 x2 x3 at n0 n1 n2 n3 h p0 p1 p2 p3 =
    let q0 = puts x0 d e0 at n0 (omega arith) p0.0 p0.1 in
    let m0 = q0.end in
    let l0 : length e0 ≡ length d = ap length q0.text ∙ written_length d at x0 (omega arith) in
    let q1 = puts x1 e0 e1 n0 n1 (omega arith) p1.0 p1.1 in
    let m1 = q1.end in
    let l1 : length e1 ≡ length e0 = ap length q1.text ∙ written_length e0 n0 x1 (omega arith) in
    let q2 = puts x2 e1 e2 n1 n2 (omega arith) p2.0 p2.1 in
    let m2 = q2.end in
    let l2 : length e2 ≡ length e1 = ap length q2.text ∙ written_length e1 n1 x2 (omega arith) in
    let q3 = puts x3 e2 e3 n2 n3 (omega arith) p3.0 p3.1 in
    puts_same (simp (append_assoc, append-nil)) (puts_then (omega arith) (puts_then (omega arith) (puts_then (omega arith) q0 q1) q2) q3)

four_length : (x0 x1 x2 x3 : List ℕ) → length (joined (x0 ∷ x1 ∷ x2 ∷ x3 ∷ [])) ≡ length x0 + length x1 + length x2 + length x3
unfolding joined
four_length x0 x1 x2 x3 = simp length-append (omega arith)

joined_append : (xs ys : List (List ℕ)) → joined (xs ++ ys) ≡ joined xs ++ joined ys
unfolding joined
joined_append [] ys = refl
joined_append (x ∷ xs) ys = ap (λ (t : List ℕ). x ++ t) (joined_append xs ys) ∙ sym (append_assoc x (joined xs) (joined ys))

-- a part of each of four streams
each_four : (part : ℕ → List ℕ → List ℕ) (d : Description) (s0 s1 s2 s3 : List ℕ) → length d.stream ≡ 4
    → each_of part d.stream (s0 ∷ s1 ∷ s2 ∷ s3 ∷ []) ≡ part (slot d 0).a s0 ∷ part (slot d 1).a s1 ∷ part (slot d 2).a s2 ∷ part (slot d 3).a s3 ∷ []
unfolding each_of
each_four part d s0 s1 s2 s3 n = ap (λ (ls : List Lengths). each_of part ls (s0 ∷ s1 ∷ s2 ∷ s3 ∷ [])) (four d.stream n)

-- the bytes from an offset on, as the code cuts them
abbrev tail : ℕ → List ℕ → List ℕ
tail n s = take (length s - n) (drop n s)

all_behind : (n : ℕ) (s : List ℕ) → tail n s ≡ drop n s
all_behind n s = take_all (length s - n) (drop n s) (simp length-drop (omega arith))

tail_length : (n : ℕ) (s : List ℕ) → length (tail n s) ≡ length s - n
tail_length n s = ap length (all_behind n s) ∙ length-drop n s

module _ (d : Description) (s0 s1 s2 s3 : List ℕ) (room : ℕ) (r : Ready d s0 s1 s2 s3 room) where
  pub starts : ((slot d 0).a ≤ length s0) × ((slot d 1).a ≤ length s1) × ((slot d 2).a ≤ length s2) × ((slot d 3).a ≤ length s3)
  starts =
      let m0 = r.n0 in
      let m1 = r.n1 in
      let m2 = r.n2 in
      let m3 = r.n3 in
      (omega arith, omega arith, omega arith, omega arith)

  heads : length (take (slot d 0).a s0) + length (take (slot d 1).a s1) + length (take (slot d 2).a s2) + length (take (slot d 3).a s3) ≡ all_a d
  heads =
      let h = starts in
      let l0 = length-take-le (slot d 0).a s0 h.0 in
      let l1 = length-take-le (slot d 1).a s1 h.1 in
      let l2 = length-take-le (slot d 2).a s2 h.2 in
      let l3 = length-take-le (slot d 3).a s3 h.3 in
      omega arith

  tails : length (tail (slot d 0).a s0) + length (tail (slot d 1).a s1) + length (tail (slot d 2).a s2) + length (tail (slot d 3).a s3) ≡ all_b d
  tails =
      let m0 = r.n0 in
      let m1 = r.n1 in
      let m2 = r.n2 in
      let m3 = r.n3 in
      let l0 = tail_length (slot d 0).a s0 in
      let l1 = tail_length (slot d 1).a s1 in
      let l2 = tail_length (slot d 2).a s2 in
      let l3 = tail_length (slot d 3).a s3 in
      omega arith

  pub room_a : 0 + (length (take (slot d 0).a s0) + length (take (slot d 1).a s1) + length (take (slot d 2).a s2) + length (take (slot d 3).a s3)) ≤ room
  room_a = let h = heads in let f = r.fits in omega arith

  module _ (out e : List ℕ) (at : ℕ) (l : length out ≡ room)
      (p : Puts out 0 (joined (take (slot d 0).a s0 ∷ take (slot d 1).a s1 ∷ take (slot d 2).a s2 ∷ take (slot d 3).a s3 ∷ [])) e at) where
    reached : at ≡ all_a d
    reached =
        let h = heads in
        let n = four_length (take (slot d 0).a s0) (take (slot d 1).a s1) (take (slot d 2).a s2) (take (slot d 3).a s3) in
        let m = p.end in
        omega arith

    pub room_b : length e ≡ room
        → at + (length (tail (slot d 0).a s0) + length (tail (slot d 1).a s1) + length (tail (slot d 2).a s2) + length (tail (slot d 3).a s3)) ≤ length e
    room_b k = let h = tails in let n = reached in let f = r.fits in omega arith

    pub parts_put : length d.stream ≡ 4 → (f : List ℕ) (end : ℕ)
        → Puts e at (joined (tail (slot d 0).a s0 ∷ tail (slot d 1).a s1 ∷ tail (slot d 2).a s2 ∷ tail (slot d 3).a s3 ∷ [])) f end
        → (end ≡ all_a d + all_b d) × Puts out 0 (joined (parts_a d.stream (s0 ∷ s1 ∷ s2 ∷ s3 ∷ []) ++ parts_b d.stream (s0 ∷ s1 ∷ s2 ∷ s3 ∷ []))) f end
    parts_put four-slots f end q =
        let ss = s0 ∷ s1 ∷ s2 ∷ s3 ∷ [] in
        let h = tails in
        let a = reached in
        let n = four_length (tail (slot d 0).a s0) (tail (slot d 1).a s1) (tail (slot d 2).a s2) (tail (slot d 3).a s3) in
        let m = q.end in
        let g = r.fits in
        let x = each_four take d s0 s1 s2 s3 four-slots in
        let y = each_four drop d s0 s1 s2 s3 four-slots in
        let t : joined (tail (slot d 0).a s0 ∷ tail (slot d 1).a s1 ∷ tail (slot d 2).a s2 ∷ tail (slot d 3).a s3 ∷ []) ≡ joined (parts_b d.stream ss) =
        rw (all_behind (slot d 0).a s0, all_behind (slot d 1).a s1, all_behind (slot d 2).a s2, all_behind (slot d 3).a s3) (ap joined (sym y)) in (
          omega arith,
          puts_same (ap₂ (λ (u v : List ℕ). u ++ v) (ap joined (sym x)) t ∙ sym (joined_append (parts_a d.stream ss) (parts_b d.stream ss)))
              (puts_then (omega arith) p q),
        )
