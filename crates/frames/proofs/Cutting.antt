-- A frame as it is cut: where its parts lie, and what the call answers and leaves. Assumes nothing.
use mathlib.Core.Path.{◌≡◌, refl, sym, ap, ◌∙◌}
use mathlib.Core.Bool.{false, not}
use mathlib.Core.List.{List, [], ◌∷◌, ◌++◌}
use Prim.Native.Nat.{ℕ, zero, suc, ◌+◌, ◌-◌, ◌≤◌, ◌<◌}
use native.Mathlib.Nat.{add-sub_cancel_left, zero-add}
use native.Mathlib.Omega.{arith}
use borrow.Author.Tests.{ltb-false, not-false, ne_eqb, eqb-true}
use lib.Dec.{ltb, eqb, lit<}
use lib.ListN.{length, get_or, take, drop, length-drop, get_or-map}
use lib.Seq.{length-take-le}
use Rattle.laws.specs.Refuse.{refused_with}
use Rattle.laws.specs.Written.{written}
use Rattle.laws.proofs.Refuse.{free}
use Rattle.moves.specs.Moves.{placed, behind}
use Rattle.moves.proofs.Pieces.{puts, puts_then}
use Rattle.description.specs.declared.Description.{Description}
use Rattle.places.specs.declared.Part.{Part}
use Rattle.description.specs.Bytes.{no_stream, said_of}
use Rattle.description.specs.Answers.{handed}
use Rattle.places.specs.Parts.{used_by, parts_of, parts_from, bad_capacity, layout_tests, no_part, Places, layout_for}
use Rattle.places.proofs.Placing.{lengths_eight}
use Rattle.description.proofs.Writing.{neither}
use Rattle.frames.specs.Frames.{bytes_in, stream_in, sizes, any_less, cut_tests, cut_number, cut_for, stream_for}
use Rattle.frames.specs.Ready.{slot, all_a, all_b}
use Rattle.frames.proofs.Building.{all_used}
use Rattle.frames.proofs.Ways.{sizes_four}

-- two parts of a frame, copied one behind the other
pub taken_out : (frame d e f : List ℕ) (x y : Part) (r : ℕ) → x.at + x.len ≤ length frame → y.at + y.len ≤ length frame → x.len + y.len ≤ length d
    → (r ≡ behind d 0 (take (x.at + x.len - x.at) (drop x.at frame))) × (e ≡ placed d 0 (take (x.at + x.len - x.at) (drop x.at frame)))
    → length e ≡ length d → (m : ℕ)
    → (m ≡ behind e r (take (y.at + y.len - y.at) (drop y.at frame))) × (f ≡ placed e r (take (y.at + y.len - y.at) (drop y.at frame)))
    → f ≡ written d 0 (bytes_in frame x ++ bytes_in frame y)
unfolding bytes_in
taken_out frame d e f x y r h k l p n m q =
    let a : x.at + x.len - x.at ≡ x.len = add-sub_cancel_left x.at x.len in
    let b : y.at + y.len - y.at ≡ y.len = add-sub_cancel_left y.at y.len in
    let X = take x.len (drop x.at frame) in
    let Y = take y.len (drop y.at frame) in
    let dx = length-drop x.at frame in
    let dy = length-drop y.at frame in
    let nx : length X ≡ x.len = length-take-le x.len (drop x.at frame) (omega arith) in
    let ny : length Y ≡ y.len = length-take-le y.len (drop y.at frame) (omega arith) in
    let P = puts X d e 0 r (omega arith) (rw a at p.0) (rw a at p.1) in
    let t = P.end in
    let Q = puts Y e f r m (omega arith) (rw b at q.0) (rw b at q.1) in
    (puts_then (omega arith) P Q).text

-- the eight parts
abbrev pub eight : Description → List Part
eight d =
    record { at = 0; len = (slot d 0).a }
    ∷ record { at = (slot d 0).a; len = (slot d 1).a }
    ∷ record { at = (slot d 0).a + (slot d 1).a; len = (slot d 2).a }
    ∷ record { at = (slot d 0).a + (slot d 1).a + (slot d 2).a; len = (slot d 3).a }
    ∷ record { at = all_a d; len = (slot d 0).b }
    ∷ record { at = all_a d + (slot d 0).b; len = (slot d 1).b }
    ∷ record { at = all_a d + (slot d 0).b + (slot d 1).b; len = (slot d 2).b }
    ∷ record { at = all_a d + (slot d 0).b + (slot d 1).b + (slot d 2).b; len = (slot d 3).b }
    ∷ []

pub parts_eight : (d : Description) → length d.stream ≡ 4 → parts_of d ≡ eight d
unfolding parts_of parts_from
parts_eight d n = rw (lengths_eight d n, zero-add (slot d 0).a) refl

-- the two parts of a stream lie within the frame and fit its output
abbrev pub Fits : List Part → ℕ → ℕ → ℕ → Type 0
Fits ps i size room =
    ((get_or ps i no_part).at + (get_or ps i no_part).len ≤ size) × ((get_or ps (4 + i) no_part).at + (get_or ps (4 + i) no_part).len ≤ size)
    × ((get_or ps i no_part).len + (get_or ps (4 + i) no_part).len ≤ room)

pub within : (d : Description) (size room : ℕ) → all_a d + all_b d ≤ size → (i : ℕ) → i < 4 → said_of d i ≤ room → Fits (eight d) i size room
within d size room h zero l k = (omega arith, omega arith, omega arith)
within d size room h (suc zero) l k = (omega arith, omega arith, omega arith)
within d size room h (suc (suc zero)) l k = (omega arith, omega arith, omega arith)
within d size room h (suc (suc (suc zero))) l k = (omega arith, omega arith, omega arith)
within d size room h (suc (suc (suc (suc i)))) l k = absurd (omega arith)

-- no length is less
none_less : (ks ns : List ℕ) → any_less ks ns ≡ false → (i : ℕ) → i < length ks → i < length ns → get_or ks i 0 ≤ get_or ns i 0
none_less [] ns e i h l = absurd (omega arith)
none_less (k ∷ ks) [] e i h l = absurd (omega arith)
none_less (k ∷ ks) (n ∷ ns) e zero h l = ltb-false n k (neither (ltb n k) (any_less ks ns) e).0
none_less (k ∷ ks) (n ∷ ns) e (suc i) h l = none_less ks ns (neither (ltb n k) (any_less ks ns) e).1 i (omega arith) (omega arith)

module _ (capacity : ℕ) (d : Description) (mode size n0 n1 n2 n3 n : ℕ) (four : length d.stream ≡ 4)
    (e : n ≡ refused_with (cut_tests capacity d mode size (n0 ∷ n1 ∷ n2 ∷ n3 ∷ []))) (z : n ≡ 0) (p : Places) (l : p ≡ layout_for capacity d mode) where
  -- the layout is not refused
  pub parts_of_law : p.part ≡ parts_of d
  unfolding cut_tests handed layout_for layout_tests
  parts_of_law =
      let f = free (cut_tests capacity d mode size (n0 ∷ n1 ∷ n2 ∷ n3 ∷ [])) (lit< tt, (lit< tt, (lit< tt, (lit< tt, (lit< tt, (lit< tt, tt)))))) (sym e ∙ z) in
      let b = (neither (bad_capacity capacity) (not (eqb size capacity)) f.0).0 in
      ap (λ (q : Places). q.part) l ∙ rw (b, f.1.0, f.1.1.0, f.1.1.1.0, f.1.1.1.1.0)

  pub out_fits : (i : ℕ) → i < 4 → Fits p.part i size (get_or (n0 ∷ n1 ∷ n2 ∷ n3 ∷ []) i 0)
  unfolding cut_tests handed
  out_fits i h =
      let ns = n0 ∷ n1 ∷ n2 ∷ n3 ∷ [] in
      let f = free (cut_tests capacity d mode size ns) (lit< tt, (lit< tt, (lit< tt, (lit< tt, (lit< tt, (lit< tt, tt)))))) (sym e ∙ z) in
      let c : size ≡ capacity = eqb-true size capacity (not-false (eqb size capacity) (neither (bad_capacity capacity) (not (eqb size capacity)) f.0).1) in
      let u : used_by d ≤ capacity = ltb-false capacity (used_by d) f.1.1.1.1.0 in
      let k = all_used d four in
      let s : get_or (sizes d) i 0 ≤ get_or ns i 0 = none_less (sizes d) ns f.1.1.1.1.1.0 i (rw (sizes_four d four) h) h in
      let m : get_or (sizes d) i 0 ≡ said_of d i = get_or-map (λ l. l.a + l.b) d.stream i no_stream in
      rw (parts_of_law, parts_eight d four) (within d size (get_or ns i 0) (omega arith) i h (omega arith))

-- the sizes, slot by slot
pub sizes_are : (d : Description) (k0 k1 k2 k3 : ℕ) → length d.stream ≡ 4
    → (k0 ≡ said_of d 0) × (k0 ≤ 131070) → (k1 ≡ said_of d 1) × (k1 ≤ 131070) → (k2 ≡ said_of d 2) × (k2 ≤ 131070) → (k3 ≡ said_of d 3) × (k3 ≤ 131070)
    → k0 ∷ k1 ∷ k2 ∷ k3 ∷ [] ≡ sizes d
sizes_are d k0 k1 k2 k3 n e0 e1 e2 e3 = rw (e0.0, e1.0, e2.0, e3.0) (sym (sizes_four d n))

module _ (capacity : ℕ) (d : Description) (mode : ℕ) (frame o0 o1 o2 o3 : List ℕ) (n : ℕ)
    (e : n ≡ refused_with (cut_tests capacity d mode (length frame) (length o0 ∷ length o1 ∷ length o2 ∷ length o3 ∷ []))) where
  pub cut_refused : (n ≡ 0 → ⊥) → record { number = n; len = 0 ∷ 0 ∷ 0 ∷ 0 ∷ [] } ≡ cut_for capacity d mode frame (o0 ∷ o1 ∷ o2 ∷ o3 ∷ [])
  unfolding cut_for cut_number
  cut_refused z = rw (← e, ne_eqb n 0 z)

  pub kept : (n ≡ 0 → ⊥) → (i : ℕ) → get_or (o0 ∷ o1 ∷ o2 ∷ o3 ∷ []) i [] ≡ stream_for capacity d mode frame (o0 ∷ o1 ∷ o2 ∷ o3 ∷ []) i
  unfolding stream_for cut_number
  kept z i = rw (← e, ne_eqb n 0 z)

  pub cut_done : n ≡ 0 → (ks : List ℕ) → ks ≡ sizes d → record { number = 0; len = ks } ≡ cut_for capacity d mode frame (o0 ∷ o1 ∷ o2 ∷ o3 ∷ [])
  unfolding cut_for cut_number
  cut_done z ks k = rw (← e, z, k)

  pub cut_out : n ≡ 0 → (ps : List Part) → ps ≡ parts_of d → (i : ℕ) (x : List ℕ)
      → x ≡ written (get_or (o0 ∷ o1 ∷ o2 ∷ o3 ∷ []) i []) 0 (bytes_in frame (get_or ps i no_part) ++ bytes_in frame (get_or ps (4 + i) no_part))
      → x ≡ stream_for capacity d mode frame (o0 ∷ o1 ∷ o2 ∷ o3 ∷ []) i
  unfolding stream_for cut_number stream_in
  cut_out z ps q i x r = rw (← e, z, ← q) r
