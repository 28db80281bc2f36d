-- What the calls answer and leave, by the way taken. Assumes nothing.
use Rattle.std.proofs.Common.{◌≡◌, ⊎_elim, ℕ, ◌+◌, ◌-◌, ◌%◌, ◌^◌, ◌<◌, ◌≤◌, min, Bool, true, false, ltb, List, [], ◌++◌, length, take, drop, sym, refl, ap, ◌∙◌, ap₂, append_assoc, arith, lit≤, length-append, length-take-le, take_all, take_at, ltb-false, ltb-true, le-ltb, lt-ltb, eq-eqb, ne_eqb, le-leb}
use Rattle.laws.specs.Big.{number_at}
use Rattle.laws.specs.Pick.{pick}
use Rattle.laws.specs.Written.{written}
use Rattle.laws.proofs.Written.{written_length}
use Rattle.moves.specs.Moves.{placed}
use Rattle.cutting.specs.Gather.{missing}
use Rattle.recording.specs.Recording.{opened_for, step_for}
use Rattle.recording.specs.Answers.{Opened, Step, Entry, End, Refused}
use Rattle.refusal.specs.declared.Refusal.{Refusal}
use Rattle.refusal.specs.declared.Refusal.TheVariants.{CutOff}
use Rattle.refusal.specs.Refusal.{number_of}
use Rattle.refusal.proofs.Numbers.{number_inj}
use Rattle.cutting.proofs.Needs.{lt_or_le}
use Rattle.walk.specs.declared.Walk.{Walk}
use Rattle.walk.specs.State.{Fed}
use Rattle.walk.specs.Entries.{entry_need}
use Rattle.walk.specs.Walk.{begun_for, held_of, taken_for, grown_for, met_by, fed_by, fed_for, work_for, packet_at, ended_for}
use Rattle.walk.proofs.Entries.{need_short, need_rest, need_long, need_most}

pub begin_done : (first : List ℕ) (o : Opened) → o ≡ opened_for first → record { number = o.number; at = o.first; have = 0 } ≡ begun_for first
unfolding begun_for
begin_done first o e = rw e refl

-- ---- end

module _ (w : Walk) where
  pub end_refused : (w.number ≡ 0 → ⊥) → record { number = w.number; place = 0 } ≡ ended_for w
  unfolding ended_for
  end_refused h = simp (ne_eqb _ _ h)

  pub end_cut : w.number ≡ 0 → (w.have ≡ 0 → ⊥) → record { number = 2; place = w.at } ≡ ended_for w
  unfolding ended_for
  end_cut h l = simp (eq-eqb _ _ h, ne_eqb _ _ l)

  pub end_well : w.number ≡ 0 → w.have ≡ 0 → record { number = 0; place = 0 } ≡ ended_for w
  unfolding ended_for
  end_well h l = simp (eq-eqb _ _ h, eq-eqb _ _ l)

-- ---- met, wanted, packet

pub met_cut_off : 0 ≡ met_by 2
unfolding met_by
met_cut_off = refl

pub met_other : (r : Refusal) → (r ≡ CutOff → ⊥) → number_of r ≡ met_by (number_of r)
unfolding met_by
met_other r h = simp (ne_eqb (number_of r) 2 (λ e. h (number_inj r CutOff e)))

module _ (h : List ℕ) where
  pub wanted_4 : length h < 4 → (4 ≡ entry_need h) × (4 ≤ 65532)
  wanted_4 l = (sym (need_short h l), lit≤ tt)

  pub wanted_rest : (n m : ℕ) → n ≡ number_at 4 h 0 → 4 ≤ length h → m ≡ min n 65528 → (4 + m ≡ entry_need h) × (4 + m ≤ 65532)
  wanted_rest n m e l f =
      ⊎_elim
      (λ k. let q = need_long h n e l k in (omega (arith, q), omega arith))
      (λ k. let q = need_rest h n e l k in (omega (arith, q), omega arith))
      (lt_or_le 65528 n)

module _ (work : List ℕ) (size : ℕ) where
  pub packet_none : length work < 4 + size → [] ≡ packet_at work size
  unfolding packet_at
  packet_none h = simp (lt-ltb (length work) (4 + size) h)

  pub packet_done : 4 ≤ length work → size ≤ length work - 4 → take (4 + size - 4) (drop 4 work) ≡ packet_at work size
  unfolding packet_at
  packet_done l h = let k : 4 + size - 4 ≡ size = omega arith in simp (le-ltb (length work) (4 + size) (omega arith), k)

-- ---- judge

module _ (h : List ℕ) (s : Step) (is : s ≡ step_for h 0) (at n : ℕ) where
  pub judge_entry : (start len next a : ℕ) → s ≡ Entry start len next → a ≡ (at + next) % 2 ^ 64
      → record { walk = record { number = 0; at = a; have = 0 }; taken = n; whole = true; size = len } ≡ fed_by (step_for h 0) at (length h) n
  unfolding fed_by
  judge_entry start len next a e q = rw (← is, e, q) refl

  pub judge_end : s ≡ End → record { walk = record { number = 0; at = at; have = length h }; taken = n; whole = false; size = 0 } ≡ fed_by (step_for h 0) at (length h) n
  unfolding fed_by
  judge_end e = rw (← is, e) refl

  pub judge_refused : (number place m : ℕ) → s ≡ Refused number place → m ≡ met_by number
      → record { walk = record { number = m; at = at; have = length h }; taken = n; whole = false; size = 0 } ≡ fed_by (step_for h 0) at (length h) n
  unfolding fed_by
  judge_refused number place m e q = rw (← is, e, q) refl

-- ---- take_in

-- so many of a row as there are at most
missing_take : (a n r : ℕ) (b : List ℕ) → r ≡ missing a n (length b) → take r b ≡ take (n - a) b
unfolding missing
missing_take a n r b e = go (ltb (length b) (n - a)) refl e
  where
    go : (t : Bool) → ltb (length b) (n - a) ≡ t → r ≡ pick t (length b) (n - a) → take r b ≡ take (n - a) b
    go true p e =
        let l : length b < n - a = ltb-true _ _ p in
        ap (λ (k : ℕ). take k b) e ∙ take_all (length b) b (omega arith) ∙ sym (take_all (n - a) b (omega arith))
    go false p e = ap (λ (k : ℕ). take k b) e

missing_most : (a n r m : ℕ) → r ≡ missing a n m → (r ≤ n - a) × (r ≤ m)
unfolding missing
missing_most a n r m e = go (ltb m (n - a)) refl e
  where
    go : (t : Bool) → ltb m (n - a) ≡ t → r ≡ pick t m (n - a) → (r ≤ n - a) × (r ≤ m)
    go true p e = let l : m < n - a = ltb-true _ _ p in (omega arith, omega arith)
    go false p e = let l : n - a ≤ m = ltb-false _ _ p in (omega arith, omega arith)

-- what stands at the front after the copy
pub placed_front : (d : List ℕ) (at r : ℕ) (xs : List ℕ) → length xs ≡ r → at + r ≤ length d → take (at + r) (placed d at xs) ≡ take at d ++ xs
unfolding placed written
placed_front d at r xs e l =
    let i : length (take at d) ≡ at = length-take-le at d (omega arith) in
    let j : length (take at d ++ xs) ≡ at + r = length-append (take at d) xs ∙ ap₂ (λ (a b : ℕ). a + b) i e in
    rw (le-leb (at + length xs) (length d) (omega arith))
    (ap (take (at + r)) (sym (append_assoc (take at d) xs (drop (at + length xs) d))) ∙ take_at (take at d ++ xs) (drop (at + length xs) d) (at + r) j)

pub placed_length : (d : List ℕ) (at : ℕ) (xs : List ℕ) → at + length xs ≤ length d → length (placed d at xs) ≡ length d
unfolding placed
placed_length d at xs l = rw (le-leb _ _ l) (written_length d at xs l)

module _ (w : Walk) (work block : List ℕ) (long : length work ≡ 65532) (have need r : ℕ) (hv : have ≡ min w.have 65532)
    (e : need ≡ entry_need (take have work)) (f : r ≡ missing have need (length block)) where
  held_is : take have work ≡ held_of w work
  unfolding held_of
  held_is = ap (λ (k : ℕ). take k work) hv

  held_length : length (held_of w work) ≡ have
  held_length = ap length (sym held_is) ∙ length-take-le have work (omega arith)

  taken_is : take r block ≡ taken_for w work block
  unfolding taken_for
  taken_is =
      missing_take have need r block f
      ∙ ap₂ (λ (a b : ℕ). take (a - b) block) (e ∙ ap entry_need held_is) (sym held_length)

  taken_length : length (taken_for w work block) ≡ r
  taken_length = ap length (sym taken_is) ∙ length-take-le r block (missing_most have need r (length block) f).1

  pub end_fits : have + r ≤ 65532
  end_fits = let m = missing_most have need r (length block) f in let n = need_most (take have work) in omega (arith, m.0)

  pub work_length : (v : List ℕ) → v ≡ placed work have (take r block) → length v ≡ 65532
  work_length v p =
      let i : length (take r block) ≡ r = ap length taken_is ∙ taken_length in
      ap length p ∙ placed_length work have (take r block) (omega (arith, end_fits)) ∙ long

  grown_is : (v : List ℕ) → v ≡ placed work have (take r block) → take (have + r) v ≡ grown_for w work block
  unfolding grown_for
  grown_is v p =
      rw p (placed_front work have r (take r block) (ap length taken_is ∙ taken_length) (omega (arith, end_fits)))
      ∙ ap₂ (λ (a b : List ℕ). a ++ b) held_is taken_is

  pub take_done : (v : List ℕ) (res : Fed) → v ≡ placed work have (take r block)
      → res ≡ fed_by (step_for (take (have + r) v) 0) w.at (length (take (have + r) v)) r
      → (res ≡ fed_by (step_for (grown_for w work block) 0) w.at (length (grown_for w work block)) (length (taken_for w work block)))
      × (v ≡ placed work (min w.have 65532) (taken_for w work block))
  take_done v res p j =
      let g = grown_is v p in (
        j ∙ ap₂ (λ (x : List ℕ) (n : ℕ). fed_by (step_for x 0) w.at (length x) n) g (sym taken_length),
        p ∙ ap₂ (λ (k : ℕ) (x : List ℕ). placed work k x) hv taken_is,
      )

-- the same in the calls' words
pub prefix_length : (n : ℕ) (l : List ℕ) → n ≤ 65532 → length l ≡ 65532 → n ≡ length (take n l)
prefix_length n l h e = sym (length-take-le n l (omega arith))

module _ (w : Walk) (work block v : List ℕ) (have need r : ℕ) (p : v ≡ placed work have (take r block)) (long : length work ≡ 65532)
    (hv : have ≡ min w.have 65532) (e : need ≡ entry_need (take have work)) (f : r ≡ missing have need (length block)) where
  pub end_in : have + r ≤ length v
  end_in = omega (arith, end_fits w work block long have need r hv e f, work_length w work block long have need r hv e f v p)

  pub part_in : have + r ≡ length (take (have + r) v)
  part_in = sym (length-take-le (have + r) v end_in)

  pub taken_in : (res : Fed) → res ≡ fed_by (step_for (take (have + r) v) 0) w.at (length (take (have + r) v)) r
      → (res ≡ fed_by (step_for (grown_for w work block) 0) w.at (length (grown_for w work block)) (length (taken_for w work block)))
      × (v ≡ placed work (min w.have 65532) (taken_for w work block))
  taken_in res j = take_done w work block long have need r hv e f v res p j

-- ---- feed

module _ (w : Walk) (work block : List ℕ) where
  pub feed_not : (w.number ≡ 0 → ⊥) → (record { walk = w; taken = 0; whole = false; size = 0 } ≡ fed_for w work block) × (work ≡ work_for w work block)
  unfolding fed_for work_for
  feed_not z = rw (ne_eqb w.number 0 z) (refl, refl)

  pub feed_done : w.number ≡ 0 → (res : Fed) (v : List ℕ)
      → (res ≡ fed_by (step_for (grown_for w work block) 0) w.at (length (grown_for w work block)) (length (taken_for w work block)))
      × (v ≡ placed work (min w.have 65532) (taken_for w work block))
      → (res ≡ fed_for w work block) × (v ≡ work_for w work block)
  unfolding fed_for work_for
  feed_done z res v j = rw (eq-eqb w.number 0 z) j
