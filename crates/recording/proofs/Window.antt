-- A recording of any length may be walked through a window of fixed length: where the window reaches 65,532 bytes on, or to the end of the
-- file, what stands at its front is what stands there in the file, with the window's offset added, and its packet has the same bytes. Assumes
-- nothing.
use Prim.Native.Nat.{ℕ, ◌+◌, ◌-◌, ◌≤◌, ◌<◌}
use mathlib.Core.Bool.{Bool, true, false}
use mathlib.Core.Path.{◌≡◌, refl, sym, ap, ◌∙◌}
use mathlib.Core.List.{List}
use mathlib.Core.Logic.{◌⊎◌, inl, inr, ⊎_elim}
use native.Mathlib.Nat.{add-zero}
use native.Mathlib.Omega.{arith}
use borrow.Author.Tests.{eqb-true, eqb-false, leb-true, leb-false, ltb-true, ltb-false}
use lib.Dec.{eqb, leb, ltb, lit≤}
use lib.ListN.{length, take, drop, length-drop, take-append-drop}
use lib.Seq.{take-take, length-take-le, take_all, drop-drop, drop-append-le, take-append-le}
use Rattle.laws.specs.Big.{big_of, number_at}
use Rattle.laws.specs.Limits.{longest}
use Rattle.laws.specs.Pick.{pick}
use Rattle.fields.proofs.Reading.{number_in}
use Rattle.recording.specs.Answers.{Step, Entry, End, Refused}
use Rattle.recording.specs.Recording.{step_for, packet_in, packet_for}
use Rattle.recording.proofs.Answers.{step_end, step_past, step_long, step_cut, step_entry, entry_means}

-- an answer about a window that begins at k, as one about the file: 2 has a place, 1 has none
abbrev pub moved : ℕ → Step → Step
moved k (Entry start len next) = Entry (k + start) len (k + next)
moved k End = End
moved k (Refused number place) = Refused number (pick (eqb number 2) (k + place) 0)

module _ (file w : List ℕ) (k : ℕ) (inside : k + length w ≤ length file) (far : (longest + 4 ≤ length w) ⊎ (k + length w ≡ length file))
    (same : 4 ≤ length w → number_at 4 w 0 ≡ number_at 4 file k) where
  -- where the file has an entry's bytes, so has the window
  room : (n : ℕ) → n ≤ longest + 4 → k + n ≤ length file → n ≤ length w
  room n s h = ⊎_elim (λ f. omega arith) (λ f. omega arith) far

  pub same_step : moved k (step_for w 0) ≡ step_for file k
  same_step = go (eqb k (length file)) refl (leb (k + 4) (length file)) refl
    where
      entry : k + 4 ≤ length file → (n : ℕ) → n ≡ number_at 4 w 0 → n ≡ number_at 4 file k → (a : Bool) → ltb 65528 n ≡ a → (b : Bool) → ltb (length file) (k + 4 + n) ≡ b
          → moved k (step_for w 0) ≡ step_for file k
      entry h n u v true p b q =
          let l : 4 ≤ length w = room 4 (lit≤ tt) h in
          ap (moved k) (sym (step_long w 0 l n u (ltb-true _ _ p))) ∙ step_long file k h n v (ltb-true _ _ p)
      entry h n u v false p true q =
          let l : 4 ≤ length w = room 4 (lit≤ tt) h in
          let x : length file < k + 4 + n = ltb-true _ _ q in
          ap (moved k) (sym (step_cut w 0 l n u (ltb-false _ _ p) (omega arith))) ∙ rw add-zero (step_cut file k h n v (ltb-false _ _ p) x)
      entry h n u v false p false q =
          let l : 4 ≤ length w = room 4 (lit≤ tt) h in
          let y : n ≤ 65528 = ltb-false _ _ p in
          let x : k + 4 + n ≤ length file = ltb-false _ _ q in
          let z : 0 + 4 + n ≤ length w = room (4 + n) (omega arith) (omega arith) in
          let e : k + (0 + 4 + n) ≡ k + 4 + n = omega arith in
          ap (moved k) (sym (step_entry w 0 l n u y z)) ∙ rw e (step_entry file k h n v y x)

      go : (a : Bool) → eqb k (length file) ≡ a → (b : Bool) → leb (k + 4) (length file) ≡ b → moved k (step_for w 0) ≡ step_for file k
      go true p b q =
          let e : k ≡ length file = eqb-true _ _ p in
          ap (moved k) (sym (step_end w 0 (omega arith))) ∙ step_end file k e
      go false p false q =
          let n = eqb-false k (length file) p in
          let x : length file < k + 4 = leb-false _ _ q in
          let l : length w ≡ length file - k = ⊎_elim (λ f. omega arith) (λ f. omega arith) far in
          ap (moved k) (sym (step_past w 0 (λ z. n (omega arith)) (omega arith))) ∙ rw add-zero (step_past file k n x)
      go false p true q =
          let h : k + 4 ≤ length file = leb-true _ _ q in
          let l : 4 ≤ length w = room 4 (lit≤ tt) h in
          entry h (number_at 4 w 0) refl (same l) (ltb 65528 (number_at 4 w 0)) refl (ltb (length file) (k + 4 + number_at 4 w 0)) refl

-- the window's length: all that is left of the file, or at least an entry of the longest packet
reach : (m : ℕ) (d : List ℕ) → (longest + 4 ≤ m) ⊎ (length d ≤ m)
    → (length (take m d) ≤ length d) × (length (take m d) ≤ m) × ((longest + 4 ≤ length (take m d)) ⊎ (length (take m d) ≡ length d))
reach m d far = go (leb (length d) m) refl far
  where
    go : (b : Bool) → leb (length d) m ≡ b → (longest + 4 ≤ m) ⊎ (length d ≤ m)
        → (length (take m d) ≤ length d) × (length (take m d) ≤ m) × ((longest + 4 ≤ length (take m d)) ⊎ (length (take m d) ≡ length d))
    go true q f =
        let l : length d ≤ m = leb-true _ _ q in
        let n : length (take m d) ≡ length d = ap length (take_all m d l) in (omega arith, omega arith, inr n)
    go false q (inl h) =
        let l : m < length d = leb-false _ _ q in
        let n : length (take m d) ≡ m = length-take-le m d (omega arith) in (omega arith, omega arith, inl (omega arith))
    go false q (inr h) = let l : m < length d = leb-false _ _ q in absurd (omega arith)

-- m bytes of the file from k on
pub window_step : (file : List ℕ) (k m : ℕ) → k ≤ length file → (longest + 4 ≤ m) ⊎ (length (drop k file) ≤ m)
    → moved k (step_for (take m (drop k file)) 0) ≡ step_for file k
window_step file k m h far =
    let d = drop k file in
    let n : length d ≡ length file - k = length-drop k file in
    let r = reach m d far in
    same_step file (take m d) k (omega (arith, r.0)) (⊎_elim (λ f. inl f) (λ f. inr (omega arith)) r.2)
    (λ l. number_in 4 (take m d) 0 l ∙ ap big_of (take-take 4 m d (omega (arith, r.1))) ∙ sym (number_in 4 file k (omega (arith, r.0))))

-- and the packet there
pub window_packet : (file : List ℕ) (k m : ℕ) → k ≤ length file → (longest + 4 ≤ m) ⊎ (length (drop k file) ≤ m)
    → packet_for (take m (drop k file)) 0 ≡ packet_for file k
unfolding packet_for packet_in
window_packet file k m h far = go (step_for w 0) refl ∙ ap (packet_in file) (window_step file k m h far)
  where
    w : List ℕ
    w = take m (drop k file)

    go : (s : Step) → step_for w 0 ≡ s → packet_in w s ≡ packet_in file (moved k s)
    go (Entry start len next) e =
        let i = entry_means w 0 start len next e in
        let l : length (drop start w) ≡ length w - start = length-drop start w in
        sym
        (ap (take len)
        (sym (drop-drop start k file)
        ∙ ap (drop start) (sym (take-append-drop m (drop k file)))
        ∙ drop-append-le start w (drop m (drop k file)) (omega (arith, i.ends, i.within)))
        ∙ take-append-le len (drop start w) (drop m (drop k file)) (omega (arith, i.ends, i.within)))
    go End e = refl
    go (Refused number place) e = refl
