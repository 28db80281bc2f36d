-- What each test of the check decides. Assumes nothing.
use Prim.Native.Nat.{ℕ, ◌-◌, ◌≤◌, ◌<◌}
use mathlib.Core.Path.{◌≡◌, refl, sym, ap, ◌∙◌}
use mathlib.Core.Bool.{Bool, true, false}
use mathlib.Core.List.{List}
use Rattle.std.specs.Prelude.{Option, Some, None, Ok, Err}
use borrow.Author.Tests.{lt-ltb, le-ltb, le-leb, lt-leb, ne_eqb}
use lib.Dec.{eqb}
use lib.ListN.{length}
use Rattle.laws.specs.Pick.{pick}
use Rattle.laws.specs.Refuse.{refused_with, refused_at}
use Rattle.items.specs.Items.{Item, cut_of, twice, is_there, place_of}
use Rattle.repeats.specs.Repeats.{Repeat, repeat_in, repeat_of, repeat_for}
use Rattle.mdi_spots.specs.Table.{missing, bad_length}
use Rattle.mdi_spots.specs.Spotted.{spots_of, passed_of, absent_at, bad_length_at}
use Rattle.mdi_spots.specs.declared.Spots.{Spots}
use Rattle.mdi_spots.specs.declared.Passed.{Passed}
use Rattle.mdi_spots.proofs.Items.{missing_is, length_is}
use Rattle.mdi.specs.Conditions.{bad_value, bad_fac, bad_sdc, unserved, bad_description, bad_streams}
use Rattle.refusal.specs.Refusal.{number_of}
use Rattle.refusal.specs.declared.Refusal.{Refusal}
use Rattle.refusal.specs.declared.Refusal.TheVariants.{Size, CutOff, Repeated}
use Rattle.refusal.specs.declared.Refused.{Refused}
use Rattle.refusal.proofs.Numbers.{number_ne0}
use Rattle.mdi.specs.Refusals.{content_tests, item_tests, nowhere, tests_for, check_for, verdict_in}

-- ---- 4 to 11

module _ (is : List Item) (t : Spots) (e : t ≡ spots_of is) (b4 : Bool) (e4 : b4 ≡ absent_at t) where
  f4 : missing is ≡ b4
  f4 = sym (e4 ∙ ap absent_at e ∙ missing_is is)

  pub no_4 : b4 ≡ true → 4 ≡ refused_with (item_tests is)
  unfolding item_tests
  no_4 h = rw (f4, h) refl

  module _ (h4 : b4 ≡ false) (b5 : Bool) (e5 : b5 ≡ bad_length_at t) where
    f5 : bad_length is ≡ b5
    f5 = sym (e5 ∙ ap bad_length_at e ∙ length_is is)

    pub no_5 : b5 ≡ true → 5 ≡ refused_with (item_tests is)
    unfolding item_tests
    no_5 h = rw (f4, h4, f5, h) refl

    module _ (h5 : b5 ≡ false) (b6 : Bool) (e6 : b6 ≡ bad_value is) where
      pub no_6 : b6 ≡ true → 6 ≡ refused_with (item_tests is)
      unfolding item_tests
      no_6 h = rw (f4, h4, f5, h5, ← e6, h) refl

      module _ (h6 : b6 ≡ false) (b7 : Bool) (e7 : b7 ≡ bad_fac is) where
        pub no_7 : b7 ≡ true → 7 ≡ refused_with (item_tests is)
        unfolding item_tests
        no_7 h = rw (f4, h4, f5, h5, ← e6, h6, ← e7, h) refl

        module _ (h7 : b7 ≡ false) (b8 : Bool) (e8 : b8 ≡ bad_sdc is) where
          pub no_8 : b8 ≡ true → 8 ≡ refused_with (item_tests is)
          unfolding item_tests
          no_8 h = rw (f4, h4, f5, h5, ← e6, h6, ← e7, h7, ← e8, h) refl

          pub no_more : b8 ≡ false → (n : ℕ) → n ≡ refused_with (content_tests is) → n ≡ refused_with (item_tests is)
          unfolding item_tests
          no_more h n e = e ∙ rw (f4, h4, f5, h5, ← e6, h6, ← e7, h7, ← e8, h) refl

module _ (is : List Item) (b9 : Bool) (e9 : b9 ≡ unserved is) where
  pub no_9 : b9 ≡ true → 9 ≡ refused_with (content_tests is)
  no_9 h = rw (← e9, h) refl

  module _ (h9 : b9 ≡ false) (b10 : Bool) (e10 : b10 ≡ bad_description is) where
    pub no_10 : b10 ≡ true → 10 ≡ refused_with (content_tests is)
    no_10 h = rw (← e9, h9, ← e10, h) refl

    module _ (h10 : b10 ≡ false) (b11 : Bool) (e11 : b11 ≡ bad_streams is) where
      pub no_11 : b11 ≡ true → 11 ≡ refused_with (content_tests is)
      no_11 h = rw (← e9, h9, ← e10, h10, ← e11, h) refl

      pub no_0 : b11 ≡ false → 0 ≡ refused_with (content_tests is)
      no_0 h = rw (← e9, h9, ← e10, h10, ← e11, h) refl

-- ---- 1 to 3, and then the items

same_place : (b : Bool) (x : ℕ) → x ≡ 0 → pick b 0 x ≡ 0
same_place true x e = refl
same_place false x e = e

pub items_place : (is : List Item) → refused_at (item_tests is) ≡ 0
unfolding item_tests
items_place is =
    same_place (missing is) _
    (same_place (bad_length is) _
    (same_place (bad_value is) _
    (same_place (bad_fac is) _
    (same_place (bad_sdc is) _
    (same_place (unserved is) _
    (same_place (bad_description is) _ (same_place (bad_streams is) 0 refl)))))))

pub spots_of_law : (p : List ℕ) (w : Passed) → w ≡ passed_of (cut_of p) → w.spots ≡ spots_of (cut_of p).items
unfolding passed_of
spots_of_law p w e = ap (λ (x : Passed). x.spots) e

module _ (p : List ℕ) where
  pub way_1 : 65528 < length p → (r : Refused) → r ≡ record { why = Size; place = 0 } → verdict_in (Err r) ≡ check_for p
  unfolding check_for tests_for
  way_1 h r e = rw (e, lt-ltb 65528 (length p) h) refl

  module _ (h1 : length p ≤ 65528) (w : Passed) (ew : w ≡ passed_of (cut_of p)) where
    f2 : (cut_of p).stop ≡ w.stop
    unfolding passed_of
    f2 = sym (ap (λ (x : Passed). x.stop) ew)

    pub way_2 : 8 ≤ length p - w.stop → verdict_in (Err (record { why = CutOff; place = w.stop })) ≡ check_for p
    unfolding check_for tests_for
    way_2 h = rw (le-ltb 65528 (length p) h1, f2, le-leb 8 (length p - w.stop) h) refl

    module _ (h2 : length p - w.stop < 8) where
      same : (r : Option ℕ) → repeat_in r ≡ repeat_for p → repeat_in r ≡ repeat_of (twice (cut_of p).items)
      unfolding repeat_for
      same r e = e ∙ rw (le-ltb 65528 (length p) h1) refl

      there : (r : Option ℕ) → repeat_in r ≡ repeat_for p → is_there (twice (cut_of p).items) ≡ (repeat_in r).found
      unfolding repeat_of
      there r e = sym (ap (λ (x : Repeat). x.found) (same r e))

      at : (r : Option ℕ) → repeat_in r ≡ repeat_for p → place_of (twice (cut_of p).items) ≡ (repeat_in r).place
      unfolding repeat_of
      at r e = sym (ap (λ (x : Repeat). x.place) (same r e))

      pub way_3 : (place : ℕ) → repeat_in (Some place) ≡ repeat_for p → verdict_in (Err (record { why = Repeated; place = place })) ≡ check_for p
      unfolding check_for tests_for
      way_3 place e = rw (le-ltb 65528 (length p) h1, f2, lt-leb 8 (length p - w.stop) h2, there (Some place) e, at (Some place) e) refl

      module _ (h3 : repeat_in None ≡ repeat_for p) where
        on : (n : ℕ) → n ≡ refused_with (item_tests (cut_of p).items) → check_for p ≡ record { number = n; place = 0; spots = pick (eqb n 0) (spots_of (cut_of p).items) nowhere }
        unfolding check_for tests_for
        on n en = rw (le-ltb 65528 (length p) h1, f2, lt-leb 8 (length p - w.stop) h2, there None h3, items_place (cut_of p).items, ← en) refl

        -- an item's refusal
        pub way_on : (why : Refusal) → number_of why ≡ refused_with (item_tests (cut_of p).items) → verdict_in (Err (record { why = why; place = 0 })) ≡ check_for p
        way_on why e = sym (on (number_of why) e ∙ rw (ne_eqb (number_of why) 0 (number_ne0 why)) refl)

        pub way_done : 0 ≡ refused_with (item_tests (cut_of p).items) → verdict_in (Ok w.spots) ≡ check_for p
        way_done e = rw (on 0 e, spots_of_law p w ew) refl
