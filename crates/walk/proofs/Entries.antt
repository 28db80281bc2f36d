-- What the bytes of an entry say, by how many there are, and how many may be taken at once. Assumes nothing.
use Rattle.std.proofs.Common.{◌≡◌, ℕ, ◌+◌, ◌-◌, ◌<◌, ◌≤◌, min, Bool, true, false, eqb, List, ◌++◌, length, take, drop, sym, refl, ap, ◌∙◌, ⊎_elim, arith, lit≤, length-append, length-drop, le-ltb, lt-ltb, eqb-true}
use borrow.Author.Tests.{eqb-false}
use lib.Seq.{take-append-le, drop-append-le}
use Rattle.laws.specs.Big.{big_of, number_at}
use Rattle.fields.proofs.Reading.{number_in}
use Rattle.cutting.specs.Records.{Steady, Real}
use Rattle.cutting.specs.Sign.{Sign, More, Whole, Wrong}
use Rattle.cutting.proofs.Needs.{lt_or_le}
use Rattle.recording.specs.Recording.{step_for, stated_at}
use Rattle.recording.specs.Answers.{Entry}
use Rattle.recording.proofs.Answers.{step_end, step_past, step_long, step_cut, step_entry}
use Rattle.walk.specs.Entries.{sign_of, entry_says, entry_need}

-- a number that is there stays when bytes come behind it
pub number_front : (n : ℕ) (h t : List ℕ) (at : ℕ) → at + n ≤ length h → number_at n (h ++ t) at ≡ number_at n h at
number_front n h t at l =
    let k : length (h ++ t) ≡ length h + length t = length-append h t in
    let i : length (drop at h) ≡ length h - at = length-drop at h in
    number_in n (h ++ t) at (omega arith)
    ∙ ap (λ (x : List ℕ). big_of (take n x)) (drop-append-le at h t (omega arith))
    ∙ ap big_of (take-append-le n (drop at h) t (omega arith))
    ∙ sym (number_in n h at l)

-- ---- the ways of an entry begun

module _ (h : List ℕ) where
  pub says_short : length h < 4 → entry_says h ≡ More
  unfolding entry_says sign_of
  says_short l = go (eqb 0 (length h)) refl
    where
      go : (b : Bool) → eqb 0 (length h) ≡ b → sign_of (step_for h 0) ≡ More
      go true e = rw (← (step_end h 0 (eqb-true _ _ e))) refl
      go false e = rw (← (step_past h 0 (eqb-false _ _ e) (omega arith))) refl

  pub need_short : length h < 4 → entry_need h ≡ 4
  unfolding entry_need
  need_short l = simp (lt-ltb _ _ l)

  module _ (n : ℕ) (e : n ≡ number_at 4 h 0) (l : 4 ≤ length h) where
    pub says_long : 65528 < n → entry_says h ≡ Wrong 1
    unfolding entry_says sign_of
    says_long m = rw (← (step_long h 0 l n e m)) refl

    pub says_more : n ≤ 65528 → length h < 4 + n → entry_says h ≡ More
    unfolding entry_says sign_of
    says_more m k = rw (← (step_cut h 0 l n e m k)) refl

    pub step_whole : n ≤ 65528 → 4 + n ≤ length h → step_for h 0 ≡ Entry 4 n (4 + n)
    step_whole m k = sym (step_entry h 0 l n e m k)

    pub says_whole : n ≤ 65528 → 4 + n ≤ length h → entry_says h ≡ Whole
    unfolding entry_says sign_of
    says_whole m k = rw (step_whole m k) refl

    pub need_rest : n ≤ 65528 → entry_need h ≡ 4 + n
    unfolding entry_need stated_at
    need_rest m = let k : min 65528 n ≡ n = omega arith in simp (le-ltb _ _ l, ← e, k)

    pub need_long : 65528 < n → entry_need h ≡ 65532
    unfolding entry_need stated_at
    need_long m = let k : min 65528 n ≡ 65528 = omega arith in simp (le-ltb _ _ l, ← e, k)

  clash : {A : Type 0} (s : Sign) → s ≡ Whole → s ≡ More → A
  clash s p q = let o : ◌≡◌ {A = ℕ} 0 1 = cc in absurd (omega arith)

  clash_wrong : {A : Type 0} (s : Sign) (k : ℕ) → s ≡ Wrong k → s ≡ More → A
  clash_wrong s k p q = let o : ◌≡◌ {A = ℕ} 0 1 = cc in absurd (omega arith)

  -- what holds of each way holds of all
  pub ways : {A : Type 0} → (length h < 4 → A) → (4 ≤ length h → 65528 < number_at 4 h 0 → A)
      → (4 ≤ length h → number_at 4 h 0 ≤ 65528 → length h < 4 + number_at 4 h 0 → A)
      → (4 ≤ length h → number_at 4 h 0 ≤ 65528 → 4 + number_at 4 h 0 ≤ length h → A) → A
  ways w x y z =
      ⊎_elim w
      (λ l. ⊎_elim (x l) (λ m. ⊎_elim (y l m) (z l m) (lt_or_le (length h) (4 + number_at 4 h 0))) (lt_or_le 65528 (number_at 4 h 0)))
      (lt_or_le (length h) 4)

  -- the two ways to be begun
  pub begun_ways : {A : Type 0} → entry_says h ≡ More → (length h < 4 → A)
      → (4 ≤ length h → number_at 4 h 0 ≤ 65528 → length h < 4 + number_at 4 h 0 → A) → A
  begun_ways m x y =
      ways x (λ l k. clash_wrong (entry_says h) 1 (says_long (number_at 4 h 0) refl l k) m) y
      (λ l n k. clash (entry_says h) (says_whole (number_at 4 h 0) refl l n k) m)

  -- never more than the longest entry
  pub need_most : entry_need h ≤ 65532
  need_most =
      ways (λ l. rw (need_short l) (lit≤ tt)) (λ l m. rw (need_long (number_at 4 h 0) refl l m) (lit≤ tt))
      (λ l n k. rw (need_rest (number_at 4 h 0) refl l n) (omega arith)) (λ l n k. rw (need_rest (number_at 4 h 0) refl l n) (omega arith))

-- ---- so many bytes may be taken at once

pub entry_steady : Steady entry_says entry_need
entry_steady = record {
  begun = λ h m. begun_ways h m (λ l. rw (need_short h l) l) (λ l n k. rw (need_rest h (number_at 4 h 0) refl l n) k);
  quiet = λ h t m j.
      begun_ways h m
      (λ l. says_short (h ++ t) (rw (need_short h l) at j))
      (λ l n k.
      let i : length (h ++ t) ≡ length h + length t = length-append h t in
      says_more (h ++ t) (number_at 4 h 0) (sym (number_front 4 h t 0 l)) (omega arith) n (rw (need_rest h (number_at 4 h 0) refl l n) at j));
}

-- no refusal's number is 0
pub entry_real : Real entry_says
unfolding entry_says sign_of
entry_real h n e =
    ways h (λ l. clash_both (entry_says h) n (says_short h l) e)
    (λ l m. same_wrong 1 n (lit≤ tt) (sym (says_long h (number_at 4 h 0) refl l m) ∙ e))
    (λ l m k. clash_both (entry_says h) n (says_more h (number_at 4 h 0) refl l m k) e)
    (λ l m k. clash_whole (entry_says h) n (says_whole h (number_at 4 h 0) refl l m k) e)
  where
    clash_both : {A : Type 0} (s : Sign) (k : ℕ) → s ≡ More → s ≡ Wrong k → A
    clash_both s k p q = let o : ◌≡◌ {A = ℕ} 0 1 = cc in absurd (omega arith)

    clash_whole : {A : Type 0} (s : Sign) (k : ℕ) → s ≡ Whole → s ≡ Wrong k → A
    clash_whole s k p q = let o : ◌≡◌ {A = ℕ} 0 1 = cc in absurd (omega arith)

    same_wrong : (m n : ℕ) → 1 ≤ m → Wrong m ≡ Wrong n → 0 < n
    same_wrong m n h e = let k : m ≡ n = cc in omega arith
