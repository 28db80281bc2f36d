-- Refusal 17 of one queue: what the code finds is what 01 lists, and what a queue without faults is like. Assumes nothing.
use Prim.Native.Nat.{ℕ, zero, suc, ◌+◌, ◌%◌, ◌<◌, ◌≤◌}
use mathlib.Core.Path.{◌≡◌, refl, sym, ap, ◌∙◌}
use mathlib.Core.List.{List, [], ◌∷◌}
use mathlib.Core.Bool.{Bool, true, false, not, ◌&&◌, ◌||◌}
use native.Mathlib.Nat.{mod-zero}
use native.Mathlib.Omega.{arith}
use borrow.Author.Tests.{eq-eqb, ne_eqb, lt-ltb, le-ltb, eqb-true, eqb-false, ltb-false, not-false}
use lib.Dec.{ltb, eqb}
use lib.ListN.{length, get_or}
use lib.Seq.{get_or-take, length-take-le}
use Rattle.std.specs.Option.{SomeIff, unwrap_or}
use Rattle.std.specs.Prelude.{Option, Some, None}
use Rattle.queue.specs.Queue.{add_up, same, units, unsent, lengths, any_empty, any_over, broken}
use Rattle.queue.specs.Send.{AllPos}
use Rattle.queue.specs.declared.Queue.{Queue}
use Rattle.laws.proofs.Flags.{or_true, or_none, or_false}

-- the rest of x by w, and x where w is 0
pub rest_is : (x p w r : ℕ) (o : Option ℕ) → w ≡ p → SomeIff o (0 < w) (x % w) → r ≡ unwrap_or o x → r ≡ x % p
rest_is x p w r None e s u = let z : p ≡ 0 = omega (arith, s) in u ∙ rw z (sym (mod-zero x))
rest_is x p w r (Some y) e s u = u ∙ s.1 ∙ ap (λ (k : ℕ). x % k) e

-- ---- a unit over 4,096 long
none_over : (xs : List ℕ) → add_up same xs ≤ 4096 → any_over 4096 xs ≡ false
unfolding add_up any_over
none_over [] h = refl
none_over (x ∷ xs) h = simp (le-ltb 4096 x (omega arith), none_over xs (omega arith))

-- where no more than 4,096 bytes are left, only the first can be
over_first : (sent : ℕ) (us : List ℕ) → add_up same us ≤ 4096 → 1 ≤ length us → any_over 4096 (lengths sent us) ≡ ltb 4096 (get_or us 0 0 + sent)
unfolding add_up any_over lengths
over_first sent [] h l = absurd (omega arith)
over_first sent (x ∷ xs) h l = simp (none_over xs (omega arith), or_none)

first_is : (q : Queue) → length q.left ≡ 8 → q.count ≤ 8 → 1 ≤ q.count → (get_or (units q) 0 0 ≡ get_or q.left 0 0) × (1 ≤ length (units q))
first_is q l h k = (get_or-take q.count q.left 0 0 k, let n = length-take-le q.count q.left (omega arith) in omega arith)

-- ---- what the code answers, by the way taken
module _ (p : ℕ) (q : Queue) where
  pub broken_count : 8 < q.count → true ≡ broken p q
  unfolding broken
  broken_count h = simp (lt-ltb _ _ h)

  pub broken_empty : (z : Bool) → z ≡ any_empty (units q) → z ≡ true → true ≡ broken p q
  unfolding broken
  broken_empty z e h = simp (← e, h, or_true)

  pub broken_unsent : (u : ℕ) → u ≡ unsent q → 4096 < u → true ≡ broken p q
  unfolding broken
  broken_unsent u e h = simp (← e, lt-ltb _ _ h, or_true)

  pub broken_rest : (r : ℕ) → r ≡ q.sent % p → (r ≡ 0 → ⊥) → true ≡ broken p q
  unfolding broken
  broken_rest r e h = simp (← e, ne_eqb _ _ h, or_true)

  pub broken_none : (r : ℕ) → r ≡ q.sent % p → r ≡ 0 → q.count ≡ 0 → ltb 0 q.sent ≡ broken p q
  unfolding broken unsent lengths any_empty any_over add_up
  broken_none r e h z = simp (← e, eq-eqb _ _ h, z)

  module _ (l8 : length q.left ≡ 8) (h : q.count ≤ 8) (u : ℕ) (eu : u ≡ unsent q) (fu : u ≤ 4096) where
    over : (q.count ≡ 0 → ⊥) → any_over 4096 (lengths q.sent (units q)) ≡ ltb 4096 (get_or q.left 0 0 + q.sent)
    unfolding unsent
    over some =
        let f = first_is q l8 h (omega arith) in
        over_first q.sent (units q) (omega arith) f.1 ∙ ap (λ (x : ℕ). ltb 4096 (x + q.sent)) f.0

    -- with a first unit its length is over, without one nothing may be sent
    pub broken_far : 4096 < q.sent → true ≡ broken p q
    unfolding broken
    broken_far k = go q.count refl
      where
        go : (n : ℕ) → q.count ≡ n → true ≡ broken p q
        go zero e = simp (eq-eqb q.count 0 e, lt-ltb 0 q.sent (omega arith), or_true)
        go (suc n) e = simp (over (λ z. omega arith), lt-ltb 4096 (get_or q.left 0 0 + q.sent) (omega arith), or_true)

    pub broken_is : (z : Bool) → z ≡ any_empty (units q) → z ≡ false → (r : ℕ) → r ≡ q.sent % p → r ≡ 0 → (q.count ≡ 0 → ⊥) → (x : ℕ) → x ≡ get_or q.left 0 0
        → ltb 4096 (x + q.sent) ≡ broken p q
    unfolding broken
    broken_is z ez fz r er fr some x e =
        simp (le-ltb _ _ h, ← ez, fz, over some, ← eu, le-ltb _ _ fu, ← er, eq-eqb _ _ fr, ne_eqb _ _ some, e, or_none)

-- ---- a queue without faults
pub record Sound (p : ℕ) (q : Queue) : Type 0 where
  pub eight : length q.left ≡ 8
  pub count : q.count ≤ 8
  pub pos : AllPos (units q)
  pub bytes : unsent q ≤ 4096
  pub whole : q.sent % p ≡ 0
  pub empty : q.count ≡ 0 → q.sent ≡ 0
  pub first : 1 ≤ q.count → get_or q.left 0 0 + q.sent ≤ 4096

none_empty : (xs : List ℕ) → any_empty xs ≡ false → AllPos xs
unfolding any_empty
none_empty [] e = tt
none_empty (x ∷ xs) e =
    let k = or_false (eqb x 0) (any_empty xs) e in
    let z : x ≡ 0 → ⊥ = eqb-false x 0 k.0 in
    (omega arith, none_empty xs k.1)

pos_empty : (xs : List ℕ) → AllPos xs → any_empty xs ≡ false
unfolding any_empty
pos_empty [] a = refl
pos_empty (x ∷ xs) a = simp (ne_eqb x 0 (λ e. omega (arith, a.0)), pos_empty xs a.1)

pub sound_of : (p : ℕ) (q : Queue) → length q.left ≡ 8 → broken p q ≡ false → Sound p q
unfolding broken unsent
sound_of p q l8 e =
    let k = or_false _ _ e in
    let j = or_false _ _ k.0 in
    let i = or_false _ _ j.0 in
    let h = or_false _ _ i.0 in
    let g = or_false _ _ h.0 in
    let n : q.count ≤ 8 = ltb-false 8 q.count g.0 in
    let b : unsent q ≤ 4096 = ltb-false 4096 (unsent q) i.1 in
    record {
      eight = l8;
      count = n;
      pos = none_empty (units q) g.1;
      bytes = b;
      whole = eqb-true (q.sent % p) 0 (not-false (eqb (q.sent % p) 0) j.1);
      empty = λ z. let t : ltb 0 q.sent ≡ false = sym (ap (λ (x : Bool). x && ltb 0 q.sent) (eq-eqb q.count 0 z)) ∙ k.1 in let u = ltb-false 0 q.sent t in omega arith;
      first = λ m.
          let f = first_is q l8 n m in
          ltb-false 4096 (get_or q.left 0 0 + q.sent)
          (sym (over_first q.sent (units q) b f.1 ∙ ap (λ (x : ℕ). ltb 4096 (x + q.sent)) f.0) ∙ h.1);
    }

-- the unsent bytes alone, where the array's length is not at hand
pub fine_bytes : (p : ℕ) (q : Queue) → broken p q ≡ false → unsent q ≤ 4096
unfolding broken
fine_bytes p q e =
    let A = ltb 8 q.count || any_empty (units q) || any_over 4096 (lengths q.sent (units q)) in
    let B = A || ltb 4096 (unsent q) in
    let C = B || not (eqb (q.sent % p) 0) in
    let c = or_false C (eqb q.count 0 && ltb 0 q.sent) e in
    let b = or_false B (not (eqb (q.sent % p) 0)) c.0 in
    ltb-false 4096 (unsent q) (or_false A (ltb 4096 (unsent q)) b.0).1

pub sound_ok : (p : ℕ) (q : Queue) → Sound p q → broken p q ≡ false
unfolding broken unsent
sound_ok p q s = go q.count refl
  where
    go : (n : ℕ) → q.count ≡ n → broken p q ≡ false
    go zero e = sym (broken_none p q (q.sent % p) refl s.whole e) ∙ ap (ltb 0) (s.empty e)
    go (suc n) e =
        sym (broken_is p q s.eight s.count (unsent q) refl s.bytes (any_empty (units q)) refl (pos_empty (units q) s.pos) (q.sent % p) refl s.whole
        (λ z. omega arith) (get_or q.left 0 0) refl)
        ∙ le-ltb 4096 (get_or q.left 0 0 + q.sent) (s.first (omega arith))
