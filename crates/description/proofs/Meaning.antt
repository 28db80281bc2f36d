-- The tests of a description say what the conditions say: `ill_formed` does not hold exactly of a well-formed description. Assumes nothing.
use mathlib.Core.Path.{◌≡◌, refl, sym, ap, ap₂, ◌∙◌}
use mathlib.Core.Bool.{Bool, true, false, not, ◌||◌, ◌&&◌}
use mathlib.Core.List.{List, [], ◌∷◌}
use mathlib.Core.Logic.{◌⊎◌, inl, inr, ⊎_elim}
use Prim.Native.Nat.{ℕ, zero, suc, ◌+◌, ◌-◌, ◌≤◌, ◌<◌}
use native.Mathlib.Nat.{not-suc-le-zero, le_of_suc-le-suc}
use native.Mathlib.Omega.{arith}
use borrow.Author.Tests.{le-ltb, ltb-false, eqb-true, eqb-false, eq-eqb, ne_eqb, not-false}
use lib.Dec.{eqb, ltb}
use lib.ListN.{length, get_or, drop, length-drop, get_or-eq_default}
use lib.Seq.{get_or-take, get_or-drop, length-take-le}
use Rattle.laws.proofs.Flags.{both}
use Rattle.description.specs.declared.Lengths.{Lengths}
use Rattle.description.specs.declared.Description.{Description}
use Rattle.description.specs.Bytes.{no_stream, streams}
use Rattle.description.specs.WellFormed.{any, all, empty, wrong_count, wrong_slots, wrong_level, wrong_mode, ill_formed, WellFormed}
use Rattle.description.proofs.Writing.{neither, none_of}

-- some, none and all of a list
none_at : (q : Lengths → Bool) (l : List Lengths) → any q l ≡ false → (i : ℕ) → i < length l → q (get_or l i no_stream) ≡ false
none_at q [] e i h = absurd (not-suc-le-zero h)
none_at q (x ∷ l) e zero h = (neither (q x) (any q l) e).0
none_at q (x ∷ l) e (suc i) h = none_at q l (neither (q x) (any q l) e).1 i (le_of_suc-le-suc h)

none_of_all : (q : Lengths → Bool) (l : List Lengths) → ((i : ℕ) → i < length l → q (get_or l i no_stream) ≡ false) → any q l ≡ false
none_of_all q [] f = refl
none_of_all q (x ∷ l) f = rw (f 0 (omega arith)) (none_of_all q l (λ i h. f (suc i) (omega arith)))

and_right : (a b : Bool) → (a && b) ≡ false → a ≡ true → b ≡ false
and_right true b e h = e
and_right false b e h = absurd (let z : ◌≡◌ {A = ℕ} 0 1 = cc in omega arith)

all_at : (q : Lengths → Bool) (l : List Lengths) → all q l ≡ true → (i : ℕ) → i < length l → q (get_or l i no_stream) ≡ true
all_at q [] e i h = absurd (not-suc-le-zero h)
all_at q (x ∷ l) e zero h = (both (q x) (all q l) e).0
all_at q (x ∷ l) e (suc i) h = all_at q l (both (q x) (all q l) e).1 i (le_of_suc-le-suc h)

all_of_each : (q : Lengths → Bool) (l : List Lengths) → ((i : ℕ) → i < length l → q (get_or l i no_stream) ≡ true) → all q l ≡ true
all_of_each q [] f = refl
all_of_each q (x ∷ l) f = rw (f 0 (omega arith)) (all_of_each q l (λ i h. f (suc i) (omega arith)))

-- a stream without a byte
empty_is : (l : Lengths) → empty l ≡ true → l ≡ no_stream
empty_is l e =
    let p = both (eqb l.a 0) (eqb l.b 0) e in
    let x : l.a ≡ 0 = eqb-true l.a 0 p.0 in
    let y : l.b ≡ 0 = eqb-true l.b 0 p.1 in
    ap₂ (λ (m n : ℕ). record { a = m; b = n }) x y

is_empty : (l : Lengths) → l ≡ no_stream → empty l ≡ true
is_empty l e = rw e

not_empty : (l : Lengths) → empty l ≡ false → l ≡ no_stream → ⊥
not_empty l e p = let z : ◌≡◌ {A = Bool} true false = sym (is_empty l p) ∙ e in let w : ◌≡◌ {A = ℕ} 0 1 = cc in omega arith

filled : (l : Lengths) → (l ≡ no_stream → ⊥) → empty l ≡ false
filled l n = go (empty l) refl
  where
    go : (b : Bool) → empty l ≡ b → b ≡ false
    go true e = absurd (n (empty_is l e))
    go false e = refl

-- within a list or behind it
pub within : (i n : ℕ) → (i < n) ⊎ (n ≤ i)
within i n = go (ltb i n) refl
  where
    go : (b : Bool) → ltb i n ≡ b → (i < n) ⊎ (n ≤ i)
    go true e = inl (borrow.Author.Tests.ltb-true i n e)
    go false e = inr (ltb-false i n e)

-- behind the streams the slots are zeros
pub behind : (s : List Lengths) (c : ℕ) → any (λ l. not (empty l)) (drop c s) ≡ false → (i : ℕ) → c ≤ i → get_or s i no_stream ≡ no_stream
behind s c e i h =
    ⊎_elim
    (λ l.
    let n = length-drop c s in
    let k : c + (i - c) ≡ i = omega arith in
    let g : get_or (drop c s) (i - c) no_stream ≡ get_or s i no_stream = get_or-drop c s (i - c) no_stream ∙ ap (λ (j : ℕ). get_or s j no_stream) k in
    let m : not (empty (get_or (drop c s) (i - c) no_stream)) ≡ false = none_at (λ x. not (empty x)) (drop c s) e (i - c) (omega arith) in
    sym g ∙ empty_is (get_or (drop c s) (i - c) no_stream) (not-false (empty (get_or (drop c s) (i - c) no_stream)) m))
    (λ l. get_or-eq_default s no_stream l)
    (within i (length s))

abbrev no_a : Lengths → Bool
no_a l = eqb l.a 0

no_a_law : (d : Description) → all no_a d.stream ≡ true → (i : ℕ) → (get_or d.stream i no_stream).a ≡ 0
no_a_law d e i =
    ⊎_elim
    (λ h. eqb-true (get_or d.stream i no_stream).a 0 (all_at no_a d.stream e i h))
    (λ h. ap (λ (l : Lengths). l.a) (get_or-eq_default d.stream no_stream h))
    (within i (length d.stream))

no_and : (a b : Bool) → (a ≡ true → b ≡ false) → (a && b) ≡ false
no_and true b f = f refl
no_and false b f = refl

module _ (mode : ℕ) (d : Description) (four : length d.stream ≡ 4) where
  pub well : ill_formed mode d ≡ false → WellFormed mode d
  unfolding ill_formed
  well e =
      let w = none_of (wrong_count d) (wrong_slots d) (wrong_level d) (wrong_mode mode d) e in
      let n = neither (eqb d.count 0) (ltb 4 d.count) w.0 in
      let s = neither (any empty (streams d)) (any (λ l. not (empty l)) (drop d.count d.stream)) w.1 in
      let z = eqb-false d.count 0 n.0 in
      let m : d.count ≤ 4 = ltb-false 4 d.count n.1 in
      let t : length (streams d) ≡ d.count = length-take-le d.count d.stream (omega arith) in
      record {
        one = omega (arith, z);
        most = m;
        bytes = λ i h p. not_empty (get_or (streams d) i no_stream) (none_at empty (streams d) s.0 i (omega arith))
            (get_or-take d.count d.stream i no_stream h ∙ p);
        behind = behind d.stream d.count s.1;
        level = λ f.
            let k : all no_a d.stream ≡ true = all_of_each no_a d.stream (λ i h. eq-eqb (get_or d.stream i no_stream).a 0 (f i)) in
            eqb-true d.level.a 0 (not-false (eqb d.level.a 0) (and_right (all no_a d.stream) (not (eqb d.level.a 0)) w.2 k));
        mode3 = λ p.
            let q = neither (ltb 1 d.level.a) (ltb 1 d.level.b)
            (and_right (eqb mode 3) (ltb 1 d.level.a || ltb 1 d.level.b) w.3 (eq-eqb mode 3 p)) in
            (ltb-false 1 d.level.a q.0, ltb-false 1 d.level.b q.1);
      }

  -- and the other way
  pub well_back : WellFormed mode d → ill_formed mode d ≡ false
  unfolding ill_formed
  well_back w =
      let one = w.one in
      let most = w.most in
      let t : length (streams d) ≡ d.count = length-take-le d.count d.stream (omega arith) in
      let u = length-drop d.count d.stream in
      let c0 : eqb d.count 0 ≡ false = ne_eqb d.count 0 (λ p. omega arith) in
      let c4 : ltb 4 d.count ≡ false = le-ltb 4 d.count most in
      let s0 : any empty (streams d) ≡ false =
      none_of_all empty (streams d) (λ i h.
      filled (get_or (streams d) i no_stream) (λ p. w.bytes i (omega arith) (sym (get_or-take d.count d.stream i no_stream (omega arith)) ∙ p))) in
      let s1 : any (λ l. not (empty l)) (drop d.count d.stream) ≡ false =
      none_of_all (λ l. not (empty l)) (drop d.count d.stream) (λ i h.
      ap not (is_empty (get_or (drop d.count d.stream) i no_stream)
      (get_or-drop d.count d.stream i no_stream ∙ w.behind (d.count + i) (omega arith)))) in
      let l0 : wrong_level d ≡ false = no_and (all no_a d.stream) (not (eqb d.level.a 0)) (λ e.
      ap not (eq-eqb d.level.a 0 (w.level (λ i. no_a_law d e i)))) in
      let m0 : wrong_mode mode d ≡ false = no_and (eqb mode 3) (ltb 1 d.level.a || ltb 1 d.level.b) (λ e.
      let q = w.mode3 (eqb-true mode 3 e) in
      rw (le-ltb 1 d.level.a q.0) (le-ltb 1 d.level.b q.1)) in
      rw (c0, c4, s0, s1, l0) m0
