-- A file that opens and walks to its end is the recording of the packets it gave: nothing else stands in it. Assumes nothing.
use Prim.Native.Nat.{ℕ, ◌+◌, ◌-◌, ◌≤◌, ◌<◌}
use mathlib.Core.Path.{◌≡◌, sym, ap, ap₂, ◌∙◌}
use mathlib.Core.List.{List, [], ◌∷◌, ◌++◌, append_assoc}
use native.Mathlib.Omega.{arith}
use borrow.Author.Tests.{eqb-true, not-false, eqb-false}
use lib.Dec.{lit<}
use lib.ListN.{length, take, drop, length-drop, take-append-drop, drop_of_length-le}
use lib.Seq.{length-take-le, drop-drop, drop-cons}
use Rattle.laws.proofs.Big.{bytes_take, bytes_drop}
use Rattle.laws.specs.Big.{Bytes, bytes_of, number_at}
use Rattle.laws.proofs.Big.{bytes_back}
use Rattle.laws.proofs.Refuse.{free}
use Rattle.fields.proofs.Reading.{number_in}
use Rattle.recording.specs.Recording.{entry_of, entries_of, recording_of, open_tests, opened_for, stated_at}
use Rattle.recording.specs.Walk.{Walks, Short}
use Rattle.recording.proofs.Answers.{entry_means, end_means, packet_there}

module _ (file : List ℕ) (bytes : Bytes file) where
  -- the number of four bytes has these four bytes
  header : (at n : ℕ) → at + 4 ≤ length file → n ≡ number_at 4 file at → bytes_of 4 n ≡ take 4 (drop at file)
  header at n h e =
      let x = take 4 (drop at file) in
      let l : length x ≡ 4 = length-take-le 4 (drop at file) (simp length-drop (omega arith)) in
      ap (bytes_of 4) (e ∙ number_in 4 file at h)
      ∙ rw l at (bytes_back x (bytes_take 4 (drop at file) (bytes_drop at file bytes)))

  pub walked_entries : (at : ℕ) (ps : List (List ℕ)) → Walks file at ps → drop at file ≡ entries_of ps
  unfolding entries_of entry_of stated_at
  walked_entries at [] w = drop_of_length-le file {i = at} (omega (arith, end_means file at w))
  walked_entries at (p ∷ ps) w =
      let m = entry_means file at (at + 4) (length p) (at + 4 + length p) w.0 in
      let k : at + 4 + length p - (at + 4) ≡ length p = omega arith in
      let d = drop (at + 4) file in
      let front : bytes_of 4 (length p) ≡ take 4 (drop at file) = header at (length p) (omega (arith, m.within)) m.states in
      let body : take (length p) d ≡ p = rw k at (packet_there file at (at + 4) (length p) (at + 4 + length p) w.0) ∙ w.1.0 in
      sym (take-append-drop 4 (drop at file))
      ∙ ap₂ (λ (a b : List ℕ). a ++ b) (sym front) (drop-drop 4 at file ∙ sym (take-append-drop (length p) d)
      ∙ ap₂ (λ (a b : List ℕ). a ++ b) body (drop-drop (length p) (at + 4) file ∙ walked_entries (at + 4 + length p) ps w.1.1))
      ∙ sym (append_assoc (bytes_of 4 (length p)) p (entries_of ps))

  pub walked_short : (at : ℕ) (ps : List (List ℕ)) → Walks file at ps → Short ps
  walked_short at [] w = tt
  walked_short at (p ∷ ps) w =
      ((entry_means file at (at + 4) (length p) (at + 4 + length p) w.0).short, walked_short (at + 4 + length p) ps w.1.1)

  pub whole : (ps : List (List ℕ)) → (opened_for file).number ≡ 0 → Walks file 1 ps → file ≡ recording_of ps
  unfolding recording_of opened_for open_tests
  whole ps e w =
      let f = free (open_tests file) (lit< tt, (lit< tt, tt)) e in
      let n = eqb-false (length file) 0 f.0 in
      let h : 0 < length file = omega arith in
      drop-cons file 0 0 h
      ∙ ap₂ (λ (x : ℕ) (l : List ℕ). x ∷ l) (eqb-true _ _ (not-false _ f.1.0)) (walked_entries 1 ps w)
