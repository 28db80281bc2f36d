-- A recording walks to the packets it was made of, in order, one call each, and then the end (B10). Assumes nothing.
use Prim.Native.Nat.{ℕ, ◌+◌, ◌≤◌}
use mathlib.Core.Path.{◌≡◌, refl, sym, ap, ap₂, ◌∙◌}
use mathlib.Core.List.{List, [], ◌∷◌, ◌++◌, append_assoc}
use native.Mathlib.Omega.{arith}
use lib.ListN.{length, take, drop, length-append}
use lib.Seq.{take_at, drop_at, drop-drop}
use Rattle.laws.specs.Big.{bytes_of, big_of, number_at}
use Rattle.laws.specs.Limits.{longest}
use Rattle.laws.proofs.Big.{big_back, bytes_length}
use Rattle.fields.proofs.Reading.{number_in}
use Rattle.recording.specs.Answers.{Entry}
use Rattle.recording.specs.Recording.{version, entry_of, entries_of, recording_of, opened_for, step_for, packet_in, packet_for}
use Rattle.recording.specs.Walk.{Walks, Short}
use Rattle.recording.proofs.Answers.{entry_length, open_done, step_end, step_entry}

-- ---- one entry, with anything before and behind it

module _ (pre p rest : List ℕ) where
  file : List ℕ
  file = pre ++ (entry_of p ++ rest)

  file_length : length file ≡ length pre + 4 + length p + length rest
  unfolding file
  file_length = simp (length-append, entry_length p) (omega arith)

  behind : drop (length pre) file ≡ bytes_of 4 (length p) ++ (p ++ rest)
  unfolding file entry_of
  behind = drop_at pre _ (length pre) refl ∙ append_assoc (bytes_of 4 (length p)) p rest

  stated : length p ≤ longest → length p ≡ number_at 4 file (length pre)
  stated h =
      let n : length pre + 4 ≤ length file = omega (arith, file_length) in
      sym
      (number_in 4 file (length pre) n
      ∙ ap (λ (l : List ℕ). big_of (take 4 l)) behind
      ∙ ap big_of (take_at (bytes_of 4 (length p)) (p ++ rest) 4 (bytes_length 4 (length p)))
      ∙ big_back 4 (length p) (omega arith))

  entry_there : length p ≤ longest → step_for file (length pre) ≡ Entry (length pre + 4) (length p) (length pre + 4 + length p)
  entry_there h =
      sym (step_entry file (length pre) (omega (arith, file_length)) (length p) (stated h) h (omega (arith, file_length)))

  packet_there : length p ≤ longest → packet_for file (length pre) ≡ p
  unfolding packet_for packet_in
  packet_there h =
      rw (entry_there h)
      (ap (take (length p))
      (sym (drop-drop 4 (length pre) file)
      ∙ ap (drop 4) behind
      ∙ drop_at (bytes_of 4 (length p)) (p ++ rest) 4 (bytes_length 4 (length p)))
      ∙ take_at p rest (length p) refl)

-- ---- all entries

walks_from : (pre : List ℕ) (ps : List (List ℕ)) → Short ps → Walks (pre ++ entries_of ps) (length pre) ps
unfolding entries_of file
walks_from pre [] s = sym (step_end (pre ++ []) (length pre) (simp length-append (omega arith)))
walks_from pre (p ∷ ps) s =
    let n : length (pre ++ entry_of p) ≡ length pre + 4 + length p = simp (length-append, entry_length p) (omega arith) in
    let more : Walks ((pre ++ entry_of p) ++ entries_of ps) (length (pre ++ entry_of p)) ps = walks_from (pre ++ entry_of p) ps s.1 in
    (entry_there pre p (entries_of ps) s.0, (packet_there pre p (entries_of ps) s.0, rw (append_assoc pre (entry_of p) (entries_of ps), n) at more))

-- B10: the walk from the first entry gives exactly the packets, in as many steps, and then the end
pub walked : (ps : List (List ℕ)) → Short ps → Walks (recording_of ps) 1 ps
unfolding recording_of
walked ps s = walks_from (version ∷ []) ps s

-- and the file opens
pub opened : (ps : List (List ℕ)) → opened_for (recording_of ps) ≡ record { number = 0; place = 0; first = 1 }
unfolding recording_of
opened ps = sym (open_done (recording_of ps) (λ z. omega arith) refl)

-- a walk gives one list of packets only
pub walks_once : (file : List ℕ) (at : ℕ) (ps qs : List (List ℕ)) → Walks file at ps → Walks file at qs → ps ≡ qs
walks_once file at [] [] v w = refl
walks_once file at [] (q ∷ qs) v w = let z : ◌≡◌ {A = ℕ} 0 1 = cc in absurd (omega arith)
walks_once file at (p ∷ ps) [] v w = let z : ◌≡◌ {A = ℕ} 0 1 = cc in absurd (omega arith)
walks_once file at (p ∷ ps) (q ∷ qs) v w =
    let e : p ≡ q = sym v.1.0 ∙ w.1.0 in
    let n : length p ≡ length q = ap length e in
    let more : Walks file (at + 4 + length q) ps = rw n at v.1.1 in
    ap₂ (λ (x : List ℕ) (xs : List (List ℕ)). x ∷ xs) e (walks_once file (at + 4 + length q) ps qs more w.1.1)
