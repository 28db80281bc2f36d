-- The lengths of the parts, their sum and their places, slot by slot; and what `layout` answers. Assumes nothing.
use mathlib.Core.Path.{◌≡◌, refl, sym, ap, ◌∙◌}
use mathlib.Core.Bool.{Bool, true, false}
use mathlib.Core.List.{List, [], ◌∷◌, ◌++◌, map}
use Prim.Native.Nat.{ℕ, suc, ◌+◌, ◌-◌, ◌*◌, ◌^◌, ◌≤◌, ◌<◌}
use native.Mathlib.Nat.{zero-add, add-zero}
use native.Mathlib.Numerals.{add-one}
use native.Mathlib.Omega.{arith}
use borrow.Author.Tests.{lt-ltb, le-ltb, ltb-false, ne_eqb, eqb-true}
use lib.Dec.{ltb, eqb, lit<}
use lib.ListN.{length, get_or, take, set, length-set, replicate}
use lib.Seq.{take_all, take-suc, take-suc-set}
use Rattle.std.specs.Prelude as std
use Rattle.std.specs.Prelude.{fold}
use Rattle.laws.specs.Pick.{pick}
use Rattle.laws.specs.Sum.{sum}
use Rattle.laws.specs.Refuse.{test, refused_with}
use Rattle.laws.proofs.Refuse.{free}
use Rattle.description.specs.declared.Lengths.{Lengths}
use Rattle.description.specs.declared.Description.{Description}
use Rattle.places.specs.declared.Part.{Part}
use Rattle.description.specs.Bytes.{no_stream}
use Rattle.description.specs.Answers.{handed}
use Rattle.places.specs.Parts.{lengths_in, used_by, parts_from, parts_of, padding_of, bad_capacity, layout_tests, no_part, Places, layout_for}
use Rattle.description.proofs.Tests.{four}
use Rattle.description.proofs.Writing.{handed_stops, handed_goes}

-- the eight lengths
abbrev eight : List Lengths → List ℕ
eight s =
    (get_or s 0 no_stream).a ∷ (get_or s 1 no_stream).a ∷ (get_or s 2 no_stream).a ∷ (get_or s 3 no_stream).a
    ∷ (get_or s 0 no_stream).b ∷ (get_or s 1 no_stream).b ∷ (get_or s 2 no_stream).b ∷ (get_or s 3 no_stream).b ∷ []

pub lengths_eight : (d : Description) → length d.stream ≡ 4 → lengths_in d ≡ eight d.stream
unfolding lengths_in
lengths_eight d n = ap (λ (s : List Lengths). map (λ l. l.a) s ++ map (λ l. l.b) s) (four d.stream n)

pub eight_long : (d : Description) (ns : List ℕ) → length d.stream ≡ 4 → ns ≡ lengths_in d → length ns ≡ 8
eight_long d ns n e = rw (e, lengths_eight d n) refl

-- added up from the front, as the library does it
from_front : (ns : List ℕ) (at : ℕ) → fold (λ a n. a + n) at ns ≡ at + sum ns
from_front [] at = omega arith
from_front (n ∷ ns) at = from_front ns (at + n) ∙ omega arith

pub used_is : (d : Description) (ns : List ℕ) → ns ≡ lengths_in d → std.sum ns ≡ used_by d
unfolding used_by
used_is d ns e = rw e (from_front (lengths_in d) 0 ∙ zero-add (sum (lengths_in d)))

-- lengths of 16 bits
small_sums : (ns : List ℕ) → ((k : ℕ) → get_or ns k 0 < 2 ^ 16) → sum ns ≤ 65535 * length ns
small_sums [] h = omega arith
small_sums (n ∷ ns) h = let x : n < 2 ^ 16 = h 0 in let r = small_sums ns (λ k. h (suc k)) in omega arith

pub small_sum : (ns : List ℕ) → ((k : ℕ) → get_or ns k 0 < 2 ^ 16) → length ns ≤ 8 → (u : ℕ) → u ≡ std.sum ns → u ≤ 524280
small_sum ns h l u e =
    let s = small_sums ns h in
    let g : u ≡ sum ns = e ∙ from_front ns 0 ∙ zero-add (sum ns) in
    omega arith

-- the parts of the first i lengths, and where the next one begins
pub record Placed (ns : List ℕ) (ps : List Part) (i at : ℕ) : Type 0 where
  pub parts : take i ps ≡ parts_from 0 (take i ns)
  pub next : at ≡ sum (take i ns)
  pub small : at ≤ 65535 * i
  pub room : length ps ≡ 8

pub begun : (ns : List ℕ) (ps : List Part) → length ps ≡ 8 → Placed ns ps 0 0
unfolding parts_from
begun ns ps n = record { parts = refl; next = refl; small = omega arith; room = n }

parts_last : (ns : List ℕ) (from n : ℕ) → parts_from from (ns ++ (n ∷ [])) ≡ parts_from from ns ++ (record { at = from + sum ns; len = n } ∷ [])
unfolding parts_from
parts_last [] from n = rw add-zero refl
parts_last (m ∷ ns) from n =
    let e : from + m + sum ns ≡ from + (m + sum ns) = omega arith in
    ap (λ (ps : List Part). record { at = from; len = m } ∷ ps) (parts_last ns (from + m) n ∙ ap (λ (k : ℕ). parts_from (from + m) ns ++ (record { at = k; len = n } ∷ [])) e)

sum_last : (ns : List ℕ) (n : ℕ) → sum (ns ++ (n ∷ [])) ≡ sum ns + n
sum_last [] n = omega arith
sum_last (m ∷ ns) n = let r = sum_last ns n in omega arith

pub placed_more : (ns : List ℕ) (ps : List Part) (i at n : ℕ) → i < length ns → i < 8 → n ≡ get_or ns i 0 → n < 2 ^ 16 → Placed ns ps i at
    → Placed ns (set ps i (record { at = at; len = n })) (i + 1) (at + n)
placed_more ns ps i at n h j e s p =
    let t : take (suc i) ns ≡ take i ns ++ (n ∷ []) = rw e (take-suc ns i 0 h) in
    let small = p.small in
    let room = p.room in
    let k : i < length ps = omega arith in
    let next = p.next in
    let q = sum_last (take i ns) n in
    rw add-one
    (record {
      parts = rw (take-suc-set ps i (record { at = at; len = n }) k, t, p.parts) (rw (p.next) (sym (parts_last (take i ns) 0 n ∙ rw zero-add refl)));
      next = rw t (omega arith);
      small = omega arith;
      room = length-set ps i _ ∙ p.room;
    })

pub all_placed : (ns : List ℕ) (ps : List Part) (i at : ℕ) → length ns ≤ i → 8 ≤ i → Placed ns ps i at → ps ≡ parts_from 0 ns
all_placed ns ps i at h k p = let room = p.room in sym (take_all i ps (omega arith)) ∙ p.parts ∙ ap (parts_from 0) (take_all i ns h)

pub parts_law : (d : Description) (ns : List ℕ) (ps : List Part) → ns ≡ lengths_in d → ps ≡ parts_from 0 ns → ps ≡ parts_of d
unfolding parts_of
parts_law d ns ps e h = h ∙ ap (parts_from 0) e

-- the answer, by the way taken through its tests
module _ (capacity : ℕ) (d : Description) (mode : ℕ) (b : Bool) (e : b ≡ bad_capacity capacity) where
  pub layout_1 : b ≡ true → 1 ≡ refused_with (layout_tests capacity d mode)
  unfolding layout_tests
  layout_1 h = rw (← e, h)

  module _ (k : b ≡ false) (n : ℕ) (f : n ≡ refused_with (handed false d mode [])) where
    pub layout_stops : (n ≡ 0 → ⊥) → n ≡ refused_with (layout_tests capacity d mode)
    unfolding layout_tests
    layout_stops z = rw (← e, k) (handed_stops false d mode n f z (test (ltb capacity (used_by d)) 12 ∷ []))

    module _ (z : n ≡ 0) (u : ℕ) (g : (u ≡ used_by d) × (u ≤ 524280)) where
      goes : pick (ltb capacity u) 12 0 ≡ refused_with (layout_tests capacity d mode)
      unfolding layout_tests
      goes = rw (← e, k, g.0) (handed_goes false d mode n f z (test (ltb capacity (used_by d)) 12 ∷ []))

      pub layout_12 : capacity < u → 12 ≡ refused_with (layout_tests capacity d mode)
      layout_12 h = let j : ◌≡◌ {A = ℕ} 12 (pick (ltb capacity u) 12 0) = rw (lt-ltb capacity u h) in j ∙ goes

      pub layout_0 : u ≤ capacity → 0 ≡ refused_with (layout_tests capacity d mode)
      layout_0 h = let j : ◌≡◌ {A = ℕ} 0 (pick (ltb capacity u) 12 0) = rw (le-ltb capacity u h) in j ∙ goes

pub ruleset laying = (layout_1, layout_stops, layout_12, layout_0)

module _ (capacity : ℕ) (d : Description) (mode n : ℕ) (e : n ≡ refused_with (layout_tests capacity d mode)) where
  pub layout_refused : (n ≡ 0 → ⊥) → record { number = n; part = replicate 8 no_part; padding = no_part } ≡ layout_for capacity d mode
  unfolding layout_for
  layout_refused z = rw (← e, ne_eqb n 0 z) refl

  pub room : n ≡ 0 → used_by d ≤ capacity
  unfolding layout_tests handed
  room z =
      let f = free (layout_tests capacity d mode) (lit< tt, (lit< tt, (lit< tt, (lit< tt, (lit< tt, tt))))) (sym e ∙ z) in
      ltb-false capacity (used_by d) f.1.1.1.1.0

  pub layout_done : n ≡ 0 → (ps : List Part) (u : ℕ) → ps ≡ parts_of d → (u ≡ used_by d) × (u ≤ 524280)
      → record { number = 0; part = ps; padding = record { at = u; len = capacity - u } } ≡ layout_for capacity d mode
  unfolding layout_for padding_of
  layout_done z ps u p q = rw (← e, z, p, q.0)

-- what an answer says of the tests, and of the places
pub laid : (capacity : ℕ) (d : Description) (mode : ℕ) (p : Places) → p ≡ layout_for capacity d mode → p.number ≡ refused_with (layout_tests capacity d mode)
unfolding layout_for
laid capacity d mode p e = ap (λ (q : Places). q.number) e ∙ go (eqb n 0) refl
  where
    n : ℕ
    n = refused_with (layout_tests capacity d mode)

    go : (b : Bool) → eqb n 0 ≡ b
        → (pick {A = Places} b (record { number = 0; part = parts_of d; padding = padding_of capacity d }) (record { number = n; part = replicate 8 no_part; padding = no_part })).number ≡ n
    go true h = sym (eqb-true n 0 h)
    go false h = refl

pub laid_at : (capacity : ℕ) (d : Description) (mode : ℕ) (p : Places) → p ≡ layout_for capacity d mode → p.number ≡ 0
    → p ≡ record { number = 0; part = parts_of d; padding = padding_of capacity d }
unfolding layout_for
laid_at capacity d mode p e z = let n = sym (laid capacity d mode p e) ∙ z in e ∙ rw n refl
