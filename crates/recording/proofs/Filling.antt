-- What the calls write is the recording of the packets appended. Assumes nothing.
use Prim.Native.Nat.{ℕ, ◌+◌, ◌≤◌}
use mathlib.Core.Path.{◌≡◌, refl, sym, ap, ◌∙◌}
use mathlib.Core.List.{List, [], ◌∷◌, ◌++◌, append_assoc, append-nil}
use native.Mathlib.Nat.{add-zero}
use native.Mathlib.Omega.{arith}
use borrow.Author.Tests.{le-ltb, ltb-false}
use lib.Dec.{lit<}
use lib.ListN.{length, take, drop, length-append, length-set}
use lib.Seq.{take_at, length-take-le}
use Rattle.laws.specs.Limits.{longest}
use Rattle.laws.specs.Written.{written}
use Rattle.laws.proofs.Refuse.{free}
use Rattle.laws.proofs.Written.{set_written, written_length}
use Rattle.recording.specs.Answers.{Grown}
use Rattle.recording.specs.Recording.{version, entry_of, entries_of, recording_of, started_for, start_output, append_tests, append_number, grown_for, output_for}
use Rattle.recording.specs.Walk.{Walks, Short, Holds, filled}
use Rattle.recording.proofs.Walk.{walked}
use Rattle.recording.proofs.Answers.{start_none, start_done}

-- one packet more
entries_more : (ps : List (List ℕ)) (p : List ℕ) → entries_of (ps ++ (p ∷ [])) ≡ entries_of ps ++ entry_of p
unfolding entries_of
entries_more [] p = append-nil (entry_of p)
entries_more (q ∷ ps) p = ap (λ (l : List ℕ). entry_of q ++ l) (entries_more ps p) ∙ sym (append_assoc (entry_of q) (entries_of ps) (entry_of p))

pub recording_more : (ps : List (List ℕ)) (p : List ℕ) → recording_of (ps ++ (p ∷ [])) ≡ recording_of ps ++ entry_of p
unfolding recording_of
recording_more ps p = ap (λ (l : List ℕ). version ∷ l) (entries_more ps p)

-- what was written behind the front of a buffer belongs to the front
front_more : (d : List ℕ) (at : ℕ) (xs : List ℕ) → at + length xs ≤ length d → take (at + length xs) (written d at xs) ≡ take at d ++ xs
unfolding written
front_more d at xs h =
    ap (take (at + length xs)) (sym (append_assoc (take at d) xs (drop (at + length xs) d)))
    ∙ take_at (take at d ++ xs) (drop (at + length xs) d) (at + length xs) (simp (length-append, length-take-le at d (omega arith)))

-- ---- the calls

module _ (p out : List ℕ) (at : ℕ) where
  -- appended exactly if the packet is short enough and its entry has room
  pub append_takes : (grown_for p out at).number ≡ 0 → (length p ≤ longest) × (at + length (entry_of p) ≤ length out)
  unfolding grown_for append_number append_tests
  append_takes e =
      let f = free (append_tests p out at) (lit< tt, (lit< tt, tt)) e in
      (ltb-false _ _ f.0, ltb-false _ _ f.1.0)

  pub appends : length p ≤ longest → at + length (entry_of p) ≤ length out
      → (grown_for p out at ≡ record { number = 0; length = at + length (entry_of p) }) × (output_for p out at ≡ written out at (entry_of p))
  unfolding grown_for output_for append_number append_tests
  appends s h = simp (le-ltb _ _ s, le-ltb _ _ h) (refl, refl)

-- behind the recording of ps the call leaves the recording of ps and p
pub append_holds : (p out : List ℕ) (at : ℕ) (ps : List (List ℕ)) → Holds out at ps → (grown_for p out at).number ≡ 0
    → Holds (output_for p out at) (grown_for p out at).length (ps ++ (p ∷ []))
append_holds p out at ps h e =
    let t = append_takes p out at e in
    let a = appends p out at t.0 t.1 in
    rw (a.0, a.1)
    (record {
      fits = omega (arith, written_length out at (entry_of p) t.1, t.1);
      front = front_more out at (entry_of p) t.1 ∙ ap (λ (l : List ℕ). l ++ entry_of p) h.front ∙ sym (recording_more ps p);
    })

pub start_holds : (out : List ℕ) → (started_for out).number ≡ 0 → Holds (start_output out) (started_for out).length []
unfolding recording_of entries_of
start_holds out e =
    let n : length out ≡ 0 → ⊥ = λ h. let z : ◌≡◌ {A = ℕ} 1 0 = ap (λ (g : Grown). g.number) (start_none out h).0 ∙ e in omega arith in
    let m : 0 + 1 ≤ length out = omega arith in
    let d = start_done out n in
    rw (← d.0, ← d.1, set_written out 0 1 m)
    (record { fits = omega (arith, written_length out 0 (version ∷ []) m); front = front_more out 0 (version ∷ []) m })

-- ---- a run of calls

pub filled_holds : (ps qs : List (List ℕ)) (out : List ℕ) (at : ℕ) → Holds out at qs → Short ps → at + length (entries_of ps) ≤ length out
    → Holds (filled out at ps) (at + length (entries_of ps)) (qs ++ ps)
unfolding entries_of
filled_holds [] qs out at h s r = rw (append-nil, add-zero) h
filled_holds (p ∷ ps) qs out at h s r =
    let l : length (entry_of p ++ entries_of ps) ≡ length (entry_of p) + length (entries_of ps) = length-append (entry_of p) (entries_of ps) in
    let a = appends p out at s.0 (omega arith) in
    let m : (grown_for p out at).length ≡ at + length (entry_of p) = ap (λ (g : Grown). g.length) a.0 in
    let k : length (output_for p out at) ≡ length out = ap length a.1 ∙ written_length out at (entry_of p) (omega arith) in
    let one : Holds (output_for p out at) (grown_for p out at).length (qs ++ (p ∷ [])) = append_holds p out at qs h (ap (λ (g : Grown). g.number) a.0) in
    let n : (grown_for p out at).length + length (entries_of ps) ≡ at + length (entry_of p ++ entries_of ps) = omega arith in
    rw (append_assoc qs (p ∷ []) ps, n) at (filled_holds ps (qs ++ (p ∷ [])) (output_for p out at) (grown_for p out at).length one s.1 (omega arith))

-- B10: a buffer with room for it, started and filled packet by packet, holds the recording, and that walks to the packets
module _ (out : List ℕ) (ps : List (List ℕ)) (s : Short ps) (r : length (recording_of ps) ≤ length out) where
  pub recorded : Holds (filled (start_output out) (started_for out).length ps) (length (recording_of ps)) ps
  unfolding recording_of
  recorded =
      let z : (started_for out).number ≡ 0 = ap (λ (g : Grown). g.number) (sym (start_done out (λ z. omega arith)).0) in
      let o : (started_for out).length ≡ 1 = ap (λ (g : Grown). g.length) (sym (start_done out (λ z. omega arith)).0) in
      let h = start_holds out z in
      let k : length (start_output out) ≡ length out = ap length (sym (start_done out (λ z. omega arith)).1) ∙ simp length-set in
      let n : (started_for out).length + length (entries_of ps) ≡ length (version ∷ entries_of ps) = omega arith in
      rw n at (filled_holds ps [] (start_output out) (started_for out).length h s (omega arith))

  pub recorded_walks : Walks (take (length (recording_of ps)) (filled (start_output out) (started_for out).length ps)) 1 ps
  recorded_walks = rw recorded.front (walked ps s)
