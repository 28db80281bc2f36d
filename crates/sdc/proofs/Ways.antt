-- What the questions and the reader answer, by the way taken through their tests. Assumes nothing.
use Prim.Native.Nat.{ℕ, zero, suc, min, ◌+◌, ◌-◌, ◌%◌, ◌≤◌, ◌<◌}
use mathlib.Core.Bool.{Bool, true, false, not, ◌&&◌, and-true, and_assoc}
use mathlib.Core.Path.{◌≡◌, refl, sym, ap, ap₂, ◌∙◌}
use mathlib.Core.List.{List, ◌++◌}
use native.Mathlib.Nat.{add-sub_cancel_left}
use native.Mathlib.Numerals.{add-one}
use native.Mathlib.Omega.{arith}
use borrow.Author.Tests.{lt-ltb, le-ltb, le-leb, lt-leb, eq-eqb, ne_eqb, ltb-true, ltb-false}
use lib.Dec.{ltb, eqb}
use lib.ListN.{length, get_or, take, drop, replicate, length-drop, length-replicate, drop_of_length-le}
use lib.Seq.{drop-cons, length-take-le}
use Rattle.laws.specs.Big.{number_at}
use Rattle.laws.specs.Pick.{pick}
use Rattle.laws.specs.Written.{written}
use Rattle.moves.specs.Moves.{placed}
use Rattle.moves.proofs.Turns.{placed_is}
use Rattle.crc.specs.Crc.{crc_of}
use Rattle.std.specs.Prelude.{Option, None, Some, MatchOption}
use Rattle.sdc.specs.declared.Head.{Head}
use Rattle.sdc.specs.declared.Sdc.{Sdc}
use Rattle.sdc.specs.Block.{capped, padded, no_sdc, data_in, sdc_of, sealed, size_of, afs_of, over_long, blank, is_too_large}

-- ---- at most 1,024
pub least_is : (n : ℕ) → min n 1024 ≡ capped n
least_is n = go (ltb 1024 n) refl
  where
    go : (b : Bool) → ltb 1024 n ≡ b → min n 1024 ≡ pick b 1024 n
    go true e = let h : 1024 < n = ltb-true _ _ e in omega arith
    go false e = let h : n ≤ 1024 = ltb-false _ _ e in omega arith

-- ---- zeros from an index on
pub blank_more : (s : List ℕ) (all b : Bool) (i : ℕ) → i < length s → (all && blank (drop i s)) ≡ b → ((all && eqb (get_or s i 0) 0) && blank (drop (i + 1) s)) ≡ b
unfolding blank
blank_more s all b i h e =
    rw add-one
    (and_assoc all (eqb (get_or s i 0) 0) (blank (drop (suc i) s)) ∙ ap (λ (l : List ℕ). all && blank l) (sym (drop-cons s i 0 h)) ∙ e)

pub blank_done : (s : List ℕ) (all b : Bool) (i : ℕ) → length s ≤ i → (all && blank (drop i s)) ≡ b → all ≡ b
unfolding blank
blank_done s all b i h e = sym (and-true all) ∙ ap (λ (l : List ℕ). all && blank l) (sym (drop_of_length-le s h)) ∙ e

-- ---- what a head says
module _ (h : Option Head) (P : Head → Type 0) (r : ℕ) (m : MatchOption h (r ≡ 0) P) where
  pub size_by : ((x : Head) → P x → r ≡ x.size) → r ≡ size_of h
  unfolding size_of
  size_by f = elim h as (λ o. MatchOption o (r ≡ 0) P → r ≡ size_of o) [ None ↦ λ e. e | Some x ↦ λ e. f x e ] m

  pub afs_by : ((x : Head) → P x → r ≡ x.afs) → r ≡ afs_of h
  unfolding afs_of
  afs_by f = elim h as (λ o. MatchOption o (r ≡ 0) P → r ≡ afs_of o) [ None ↦ λ e. e | Some x ↦ λ e. f x e ] m

pub long_is : (s : Sdc) (n : ℕ) → n ≡ size_of s.head → ltb 1024 n ≡ over_long s
unfolding over_long
long_is s n e = rw e

module _ (s : Sdc) (a : ℕ) (ea : a ≡ afs_of s.head) where
  pub large_afs : 15 < a → ltb 15 a ≡ is_too_large s
  unfolding is_too_large
  large_afs h = rw (← ea, lt-ltb _ _ h)

  pub large_rest : a ≤ 15 → (n : ℕ) (b : Bool) → n ≡ size_of s.head → b ≡ blank (drop n s.body) → not b ≡ is_too_large s
  unfolding is_too_large
  large_rest h n b en eb = rw (← ea, le-ltb _ _ h, eb, en)

-- ---- the seal
module _ (v : List ℕ) where
  pub seal_none : length v ≡ 0 → true ≡ sealed v
  unfolding sealed
  seal_none e = rw (eq-eqb _ _ e)

  pub seal_short : (length v ≡ 0 → ⊥) → length v < 3 → false ≡ sealed v
  unfolding sealed
  seal_short n h = rw (ne_eqb _ _ n, lt-leb _ _ h)

  pub seal_is : (x w : ℕ) → (length v ≡ 0 → ⊥) → 3 ≤ length v → x ≡ number_at 2 v (length v - 2) → w ≡ crc_of 16 0x1021 (take (length v - 2 - 0) v)
      → (ltb (get_or v 0 0) 16 && eqb x w) ≡ sealed v
  unfolding sealed
  seal_is x w n h ex ew =
      let z : length v - 2 - 0 ≡ length v - 2 = omega arith in
      rw (ne_eqb _ _ n, le-leb _ _ h, ex, ew, z)

-- ---- what a value says
pub drop_zeros : (i n : ℕ) → drop i (replicate {A = ℕ} n 0) ≡ replicate (n - i) 0
drop_zeros zero n = let e : n - 0 ≡ n = omega arith in rw e refl
drop_zeros (suc i) zero = let e : 0 - suc i ≡ 0 = omega arith in rw e refl
drop_zeros (suc i) (suc n) = rw step (drop_zeros i n)
  where
    step : suc n - suc i ≡ n - i
    step = omega arith

-- at the front of zeros
pub padded_is : (d : List ℕ) → length d ≤ 1024 → placed (replicate 1024 0) 0 d ≡ padded d
unfolding padded written
padded_is d h =
    let z : List ℕ = replicate 1024 0 in
    let l : length z ≡ 1024 = length-replicate {A = ℕ} 1024 0 in
    let e : 0 + length d ≡ length d = omega arith in
    placed_is z 0 d (omega arith) ∙ ap (λ (t : List ℕ). d ++ t) (ap (λ (k : ℕ). drop k z) e ∙ drop_zeros (length d) 1024)

pub data_length : (v : List ℕ) → length (data_in v) ≡ capped (length v - 3)
unfolding data_in
data_length v = go (ltb 1024 (length v - 3)) refl
  where
    go : (b : Bool) → ltb 1024 (length v - 3) ≡ b → length (take (pick b 1024 (length v - 3)) (drop 1 v)) ≡ pick b 1024 (length v - 3)
    go true e = let h : 1024 < length v - 3 = ltb-true _ _ e in length-take-le 1024 (drop 1 v) (rw length-drop (omega arith))
    go false e = length-take-le (length v - 3) (drop 1 v) (rw length-drop (omega arith))

pub of_none : (v : List ℕ) (r : Sdc) → length v ≡ 0 → r ≡ no_sdc → r ≡ sdc_of v
unfolding sdc_of
of_none v r h e = e ∙ rw (eq-eqb _ _ h)

pub of_some : (v b : List ℕ) (m n : ℕ) → (length v ≡ 0 → ⊥) → m ≡ length v - 3 → n ≡ min m 1024
    → b ≡ placed (replicate 1024 0) 0 (take (1 + n - 1) (drop 1 v)) → record { head = Some (record { afs = get_or v 0 0 % 16; size = n }); body = b } ≡ sdc_of v
unfolding sdc_of data_in
of_some v b m n z em en q =
    let c : n ≡ capped (length v - 3) = en ∙ ap (λ (k : ℕ). min k 1024) em ∙ least_is (length v - 3) in
    let k : 1 + n - 1 ≡ capped (length v - 3) = add-sub_cancel_left 1 n ∙ c in
    let l : length (data_in v) ≡ n = data_length v ∙ sym c in
    let h : length (data_in v) ≤ 1024 = omega arith in
    let p : b ≡ padded (data_in v) = q ∙ ap (λ (j : ℕ). placed (replicate 1024 0) 0 (take j (drop 1 v))) k ∙ padded_is (data_in v) h in
    rw (ne_eqb _ _ z) (ap₂ (λ (i : ℕ) (t : List ℕ). record { head = Some (record { afs = get_or v 0 0 % 16; size = i }); body = t }) c p)
