-- What the calls answer and leave, by the way taken through their tests. Assumes nothing.
use Prim.Native.Nat.{ℕ, ◌+◌, ◌-◌, ◌<◌, ◌≤◌}
use mathlib.Core.Bool.{Bool, true, false}
use mathlib.Core.Path.{◌≡◌, refl, sym, ap, ◌∙◌}
use mathlib.Core.List.{List, []}
use mathlib.Core.Logic.{⊎_elim}
use native.Mathlib.Omega.{arith}
use borrow.Author.Tests.{le-ltb, le-leb, lt-ltb, eq-eqb, ne_eqb, eqb-true, eqb-false, ltb-false}
use lib.Dec.{lit<, eqb}
use lib.ListN.{length, get_or, take, drop, set, length-append}
use Rattle.std.specs.Prelude.{Option, Some, None}
use Rattle.std.specs.List.{slice_get}
use Rattle.std.proofs.lemmas.Option.{slice_get_cases, slice_get_within, get_or_from_slice_get}
use Rattle.laws.specs.Big.{bytes_of, number_at}
use Rattle.laws.specs.Pick.{pick}
use Rattle.laws.specs.Refuse.{refused_with, refused_at}
use Rattle.laws.specs.Written.{written}
use Rattle.laws.proofs.Big.{bytes_length}
use Rattle.laws.proofs.Refuse.{free, no_place}
use Rattle.laws.proofs.Written.{set_written, write_next, written_length}
use Rattle.fields.specs.Numbers.{put_at}
use Rattle.moves.specs.Moves.{placed}
use Rattle.fields.proofs.Reading.{number_out}
use Rattle.fields.proofs.Writing.{put_in}
use Rattle.recording.specs.Answers.{Step, Entry, End, Refused}
use Rattle.recording.specs.Recording.{entry_of, open_tests, opened_for, stated_at, behind_at, cut_at, step_tests, step_for, told, told_for, packet_in, packet_for, start_number, started_for, start_output, append_tests, append_number, grown_for, output_for}

-- ---- open

-- what the first byte says of the file
pub first_none : (file : List ℕ) → slice_get file 0 ≡ None → length file ≡ 0
first_none file e =
    ⊎_elim
    (λ p. let q : ◌≡◌ {A = Option ℕ} (Some p.0) None = sym p.2 ∙ e in let z : ◌≡◌ {A = ℕ} 0 1 = cc in absurd (omega arith))
    (λ p. omega (arith, p.0))
    (slice_get_cases file 0).1

pub first_some : (file : List ℕ) (x : ℕ) → slice_get file 0 ≡ Some x → (length file ≡ 0 → ⊥) × (get_or file 0 0 ≡ x)
first_some file x e = (λ z. let h = slice_get_within file 0 x e in omega arith, get_or_from_slice_get file 0 x 0 e)

module _ (file : List ℕ) where
  pub open_empty : length file ≡ 0 → record { number = 2; place = 0; first = 0 } ≡ opened_for file
  unfolding open_tests opened_for
  open_empty h = simp (eq-eqb _ _ h)

  pub open_other : (length file ≡ 0 → ⊥) → (get_or file 0 0 ≡ 1 → ⊥) → record { number = 6; place = 0; first = 0 } ≡ opened_for file
  unfolding open_tests opened_for
  open_other h v = simp (ne_eqb _ _ h, ne_eqb _ _ v)

  pub open_done : (length file ≡ 0 → ⊥) → get_or file 0 0 ≡ 1 → record { number = 0; place = 0; first = 1 } ≡ opened_for file
  unfolding open_tests opened_for
  open_done h v = simp (ne_eqb _ _ h, eq-eqb _ _ v)

-- ---- next

module _ (file : List ℕ) (at : ℕ) where
  pub step_end : at ≡ length file → End ≡ step_for file at
  unfolding step_for
  step_end h = simp (eq-eqb _ _ h)

  -- not even the four bytes of the length are there
  pub step_past : (at ≡ length file → ⊥) → length file < at + 4 → Refused 2 at ≡ step_for file at
  unfolding step_for step_tests cut_at behind_at stated_at
  step_past h l =
      let z : number_at 4 file at ≡ 0 = number_out 4 file at l in
      simp (z, ne_eqb _ _ h, lt-ltb (length file) (at + 4 + 0) (omega arith))

  module _ (inside : at + 4 ≤ length file) (n : ℕ) (e : n ≡ number_at 4 file at) where
    before_end : eqb at (length file) ≡ false
    before_end = ne_eqb at (length file) (λ q. omega arith)

    pub step_long : 65528 < n → Refused 1 0 ≡ step_for file at
    unfolding step_for step_tests stated_at
    step_long h = simp (before_end, ← e, lt-ltb _ _ h)

    pub step_cut : n ≤ 65528 → length file < at + 4 + n → Refused 2 at ≡ step_for file at
    unfolding step_for step_tests cut_at behind_at stated_at
    step_cut h l = simp (before_end, ← e, le-ltb _ _ h, lt-ltb _ _ l)

    pub step_entry : n ≤ 65528 → at + 4 + n ≤ length file → Entry (at + 4) n (at + 4 + n) ≡ step_for file at
    unfolding step_for step_tests cut_at behind_at stated_at
    step_entry h l = simp (before_end, ← e, le-ltb _ _ h, le-ltb _ _ l)

  no_refusal : at ≡ length file → (refused_with (step_tests file at) ≡ 0) × (refused_at (step_tests file at) ≡ 0)
  unfolding step_tests cut_at stated_at
  no_refusal h = simp (number_out 4 file at (omega arith), eq-eqb _ _ h) (refl, refl)

  no_place_there : refused_with (step_tests file at) ≡ 0 → refused_at (step_tests file at) ≡ 0
  unfolding step_tests
  no_place_there z = no_place (step_tests file at) (free (step_tests file at) (lit< tt, (lit< tt, tt)) z)

  -- what holds of the end, of an entry and of a refusal, each under its tests, holds of what stands there
  pub step_cases : (P : Step → Type 0) → (at ≡ length file → P End)
      → ((at ≡ length file → ⊥) → refused_with (step_tests file at) ≡ 0 → P (Entry (at + 4) (stated_at file at) (behind_at file at)))
      → ((at ≡ length file → ⊥) → (refused_with (step_tests file at) ≡ 0 → ⊥) → P (Refused (refused_with (step_tests file at)) (refused_at (step_tests file at))))
      → P (step_for file at)
  unfolding step_for
  step_cases P x y z = go (eqb at (length file)) refl (eqb (refused_with (step_tests file at)) 0) refl
    where
      go : (a : Bool) → eqb at (length file) ≡ a → (b : Bool) → eqb (refused_with (step_tests file at)) 0 ≡ b
          → P (pick a End (pick b (Entry (at + 4) (stated_at file at) (behind_at file at)) (Refused (refused_with (step_tests file at)) (refused_at (step_tests file at)))))
      go true p b q = x (eqb-true _ _ p)
      go false p true q = y (eqb-false _ _ p) (eqb-true _ _ q)
      go false p false q = z (eqb-false _ _ p) (eqb-false _ _ q)

  -- 01's number, place and values of what stands there
  pub told_step : told (step_for file at) ≡ told_for file at
  unfolding told_for told
  told_step =
      step_cases (λ (s : Step). told s ≡ told_for file at)
      (λ h. let z = no_refusal h in simp (z.0, z.1, eq-eqb _ _ h))
      (λ h z. simp (z, no_place_there z, ne_eqb _ _ h))
      (λ h z. simp (ne_eqb _ _ h, ne_eqb _ _ z))

  pub answered : (s : Step) → s ≡ step_for file at → (s ≡ step_for file at) × (told s ≡ told_for file at)
  answered s e = (e, ap told e ∙ told_step)

-- ---- packet

-- what an entry says: where its packet lies, and that it lies within the file
pub record Whole (file : List ℕ) (at start len next : ℕ) : Type 0 where
  pub starts : start ≡ at + 4
  pub states : len ≡ stated_at file at
  pub ends : next ≡ start + len
  pub within : next ≤ length file
  pub short : len ≤ 65528

module _ (file : List ℕ) (at : ℕ) where
  lies : (start len next : ℕ) → (at ≡ length file → ⊥) → refused_with (step_tests file at) ≡ 0
      → Entry (at + 4) (stated_at file at) (behind_at file at) ≡ Entry start len next → Whole file at start len next
  unfolding step_tests cut_at behind_at
  lies start len next h z e =
      let f = free (step_tests file at) (lit< tt, (lit< tt, tt)) z in
      let x : at + 4 ≡ start = cc in
      let y : stated_at file at ≡ len = cc in
      let z : at + 4 + stated_at file at ≡ next = cc in
      let l : stated_at file at ≤ 65528 = ltb-false _ _ f.0 in
      let w : at + 4 + stated_at file at ≤ length file = ltb-false _ _ (simp (ne_eqb _ _ h) at f.1.0) in
      record { starts = sym x; states = sym y; ends = omega arith; within = omega arith; short = omega arith }

  pub entry_means : (start len next : ℕ) → step_for file at ≡ Entry start len next → Whole file at start len next
  entry_means start len next =
      step_cases file at (λ (s : Step). s ≡ Entry start len next → Whole file at start len next)
      (λ h e. let z : ◌≡◌ {A = ℕ} 0 1 = cc in absurd (omega arith))
      (lies start len next)
      (λ h z e. let z : ◌≡◌ {A = ℕ} 0 1 = cc in absurd (omega arith))

  pub end_means : step_for file at ≡ End → at ≡ length file
  end_means =
      step_cases file at (λ (s : Step). s ≡ End → at ≡ length file)
      (λ h e. h)
      (λ h z e. let z : ◌≡◌ {A = ℕ} 0 1 = cc in absurd (omega arith))
      (λ h z e. let z : ◌≡◌ {A = ℕ} 0 1 = cc in absurd (omega arith))

  pub packet_there : (start len next : ℕ) → step_for file at ≡ Entry start len next → take (next - start) (drop start file) ≡ packet_for file at
  unfolding packet_for packet_in
  packet_there start len next e =
      let w = entry_means start len next e in
      let k : next - start ≡ len = omega (arith, w.ends) in
      rw (e, k)

  pub packet_ended : step_for file at ≡ End → [] ≡ packet_for file at
  unfolding packet_for packet_in
  packet_ended e = rw e

  pub packet_refused : (n p : ℕ) → step_for file at ≡ Refused n p → [] ≡ packet_for file at
  unfolding packet_for packet_in
  packet_refused n p e = rw e

-- ---- start

module _ (out : List ℕ) where
  pub start_none : length out ≡ 0 → (record { number = 1; length = 0 } ≡ started_for out) × (out ≡ start_output out)
  unfolding start_number started_for start_output
  start_none h = simp (eq-eqb _ _ h) (refl, refl)

  pub start_done : (length out ≡ 0 → ⊥) → (record { number = 0; length = 1 } ≡ started_for out) × (set out 0 1 ≡ start_output out)
  unfolding start_number started_for start_output
  start_done h = simp (ne_eqb _ _ h) (refl, set_written out 0 1 (omega arith))

-- ---- append

pub entry_length : (packet : List ℕ) → length (entry_of packet) ≡ 4 + length packet
unfolding entry_of
entry_length p = simp (length-append, bytes_length 4 (length p))

module _ (packet out : List ℕ) (at : ℕ) where
  pub append_long : 65528 < length packet → (record { number = 1; length = 0 } ≡ grown_for packet out at) × (out ≡ output_for packet out at)
  unfolding append_tests append_number grown_for output_for
  append_long h = simp (lt-ltb _ _ h) (refl, refl)

  pub append_short : length packet ≤ 65528 → length out < at + (4 + length packet)
      → (record { number = 1; length = 0 } ≡ grown_for packet out at) × (out ≡ output_for packet out at)
  unfolding append_tests append_number grown_for output_for
  append_short h l = simp (le-ltb _ _ h, entry_length packet, lt-ltb _ _ l) (refl, refl)

  -- the length, and the packet behind it
  laid : (d : List ℕ) → at + 4 ≤ length out → d ≡ put_at 4 out at (length packet) → written d (at + 4) packet ≡ written out at (entry_of packet)
  unfolding entry_of
  laid d h p =
      let n : at + 4 ≡ at + length (bytes_of 4 (length packet)) = omega (arith, bytes_length 4 (length packet)) in
      write_next out d at (bytes_of 4 (length packet)) packet (at + 4) n h (p ∙ put_in 4 out at (length packet) h)

  pub append_done : length packet ≤ 65528 → at + (4 + length packet) ≤ length out
      → (d : List ℕ) → d ≡ put_at 4 out at (length packet) → (e : List ℕ) → e ≡ placed d (at + 4) packet
      → (record { number = 0; length = at + (4 + length packet) } ≡ grown_for packet out at) × (e ≡ output_for packet out at)
  unfolding append_tests append_number grown_for output_for placed
  append_done h l d p e q =
      let b = bytes_length 4 (length packet) in
      let k : length d ≡ length out = ap length (p ∙ put_in 4 out at (length packet) (omega arith)) ∙ written_length out at (bytes_of 4 (length packet)) (omega arith) in
      let f : at + 4 + length packet ≤ length d = omega arith in
      simp (le-ltb _ _ h, entry_length packet, le-ltb _ _ l) (refl, q ∙ rw (le-leb _ _ f) refl ∙ laid d (omega arith) p)
