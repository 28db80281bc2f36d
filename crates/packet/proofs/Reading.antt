-- A packet that is not refused: what the checks have established, and what `read` and `useful` answer then. Assumes nothing.
use mathlib.Core.Path.{◌≡◌, refl, sym, ap, ◌∙◌}
use mathlib.Core.List.{List, []}
use mathlib.Core.Bool.{Bool, true, false, true≢false}
use Prim.Native.Nat.{ℕ, ◌+◌, ◌-◌, ◌%◌, ◌≤◌}
use native.Mathlib.Omega.{arith}
use borrow.Author.Tests.{eq-eqb, ne_eqb, eqb-true, eqb-false, ltb-false, not-false}
use lib.Dec.{eqb, ltb, lit<}
use lib.ListN.{length, get_or, take, drop, length-drop}
use lib.Seq.{length-take-le}
use Rattle.std.specs.Prelude.{Result, Ok, Err}
use Rattle.std.specs.Result.{is_err}
use Rattle.laws.specs.Pick.{pick}
use Rattle.laws.proofs.Refuse.{free}
use Rattle.refusal.specs.declared.Refusal.{Refusal}
use Rattle.refusal.specs.Refusal.{number_in}
use Rattle.refusal.proofs.Numbers.{number_ne0}
use Rattle.packet.specs.Packet.{padded, field_at, body_of, decode}
use Rattle.packet.specs.Calls.{wrong_word, wrong_count, tests_for, check_for, no_head, head_for, read_for, useful_for}
use Rattle.packet.specs.Head.{Head}

-- what the checks establish
pub record Passed (p : ℕ) (s : List ℕ) : Type 0 where
  pub low : 1 ≤ p
  pub high : p ≤ 255
  pub whole : length s ≡ p + 3
  pub word : wrong_word p s ≡ false
  pub count : padded (get_or s 0 0) ≡ true → get_or s 1 0 ≤ p - 1

pub passed : (p : ℕ) (s : List ℕ) → check_for p s ≡ 0 → Passed p s
unfolding check_for tests_for wrong_count
passed p s e =
    let t = free (tests_for p s) (lit< tt, (lit< tt, (lit< tt, (lit< tt, (lit< tt, tt))))) e in
    let z : p ≡ 0 → ⊥ = eqb-false p 0 t.0 in
    record {
      low = omega arith;
      high = ltb-false 255 p t.1.0;
      whole = eqb-true (length s) (p + 3) (not-false (eqb (length s) (p + 3)) t.1.1.0);
      word = t.1.1.1.0;
      count = λ h. ltb-false (p - 1) (get_or s 1 0) (sym (ap (λ (b : Bool). pick b (ltb (p - 1) (get_or s 1 0)) false) h) ∙ t.1.1.1.1.0);
    }

-- a check's answer by its test, which answers b
pub with_err : {A : Type 0} (x : Result A Refusal) (b : Bool) → b ≡ is_err x → b ≡ true → number_in x ≡ 0 → ⊥
with_err (Ok a) b e t = absurd (true≢false (sym t ∙ e))
with_err (Err r) b e t = number_ne0 r

pub with_ok : {A : Type 0} (x : Result A Refusal) (b : Bool) (n : ℕ) → number_in x ≡ n → b ≡ is_err x → b ≡ false → 0 ≡ n
with_ok (Ok a) b n q e t = q
with_ok (Err r) b n q e t = absurd (true≢false (sym e ∙ t))

module _ (p : ℕ) (s : List ℕ) (number : ℕ) (e : number ≡ check_for p s) where
  pub read_refused : (number ≡ 0 → ⊥) → no_head number ≡ read_for p s
  unfolding read_for
  read_refused h = simp (← e, ne_eqb number 0 h)

  pub useful_refused : (number ≡ 0 → ⊥) → [] ≡ useful_for p s
  unfolding useful_for
  useful_refused h = simp (← e, ne_eqb number 0 h)

  module _ (z : number ≡ 0) where
    pub is_passed : Passed p s
    is_passed = passed p s (sym e ∙ z)

    module _ (b : Bool) (eb : b ≡ padded (get_or s 0 0)) where
      pub body_padded : b ≡ true → (n : ℕ) → n ≡ get_or s 1 0 → (length (body_of p s) ≡ n) × (body_of p s ≡ take n (drop 2 s))
      unfolding body_of
      body_padded t n en =
          let k = is_passed in
          let q : padded (get_or s 0 0) ≡ true = sym eb ∙ t in
          let c : get_or s 1 0 ≤ p - 1 = k.count q in
          let w = k.whole in
          let l = k.low in
          rw (q, ← en) (length-take-le n (drop 2 s) (omega (arith, length-drop 2 s)), refl)

      pub body_full : b ≡ false → (length (body_of p s) ≡ p) × (body_of p s ≡ take p (drop 1 s))
      unfolding body_of
      body_full t =
          let k = is_passed in
          let q : padded (get_or s 0 0) ≡ false = sym eb ∙ t in
          let w = k.whole in
          rw q (length-take-le p (drop 1 s) (omega (arith, length-drop 1 s)), refl)

      pub read_is : (n : ℕ) → length (body_of p s) ≡ n → ◌≡◌ {A = Head}
          (record {
            number = 0;
            first = eqb (field_at 0 (get_or s 0 0)) 1;
            last = eqb (field_at 1 (get_or s 0 0)) 1;
            id = field_at 2 (get_or s 0 0);
            padded = b;
            index = get_or s 0 0 % 8;
            length = n;
          })
          (read_for p s)
      unfolding read_for head_for decode
      read_is n l = simp (← e, eq-eqb number 0 z, ← eb, ← l, native.Mathlib.Nat.div-one)

      useful_is : (part : List ℕ) → body_of p s ≡ part → part ≡ useful_for p s
      unfolding useful_for decode
      useful_is part l = simp (← e, eq-eqb number 0 z, l)

      -- the part of a padded packet, and of a full one
      pub padded_in : b ≡ true → (n : ℕ) → n ≡ get_or s 1 0 → 2 + n ≤ length s
      padded_in t n en = let k = is_passed in let l = k.low in omega (arith, k.whole, k.count (sym eb ∙ t))

      pub useful_padded : b ≡ true → (n : ℕ) → n ≡ get_or s 1 0 → take (2 + n - 2) (drop 2 s) ≡ useful_for p s
      useful_padded t n en = let m : n ≡ 2 + n - 2 = omega arith in useful_is _ ((body_padded t n en).1 ∙ ap (λ (k : ℕ). take k (drop 2 s)) m)

      pub useful_full : b ≡ false → take (p + 1 - 1) (drop 1 s) ≡ useful_for p s
      useful_full t = let m : p ≡ p + 1 - 1 = omega arith in useful_is _ ((body_full t).1 ∙ ap (λ (k : ℕ). take k (drop 1 s)) m)
