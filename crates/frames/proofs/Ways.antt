-- The tests of the two calls, and what they answer by the way taken through them. Assumes nothing.
use mathlib.Core.Path.{◌≡◌, refl, sym, ap, ◌∙◌}
use mathlib.Core.Bool.{Bool, true, false, not, ◌||◌, or-false, or-true}
use mathlib.Core.List.{List, [], ◌∷◌, map}
use Prim.Native.Nat.{ℕ, ◌+◌, ◌≤◌, ◌<◌}
use borrow.Author.Tests.{lt-ltb, le-ltb, ne_eqb, eq-eqb}
use Rattle.std.specs.List.{list_any, zip}
use lib.Dec.{ltb, eqb}
use lib.ListN.{length, get_or}
use Rattle.laws.specs.Pick.{pick}
use Rattle.laws.specs.Refuse.{Test, test, refused_with}
use Rattle.description.specs.declared.Lengths.{Lengths}
use Rattle.description.specs.declared.Description.{Description}
use Rattle.description.specs.Bytes.{said_of, filled}
use Rattle.description.specs.WellFormed.{is_too_large, ill_formed}
use Rattle.description.specs.Answers.{unserved, handed}
use Rattle.places.specs.Parts.{used_by, bad_capacity, layout_tests}
use Rattle.description.proofs.Tests.{four}
use Rattle.description.proofs.Writing.{handed_stops, handed_goes}
use Rattle.frames.specs.Frames.{sizes, any_long, any_less, build_tests, cut_tests}

-- the sizes, slot by slot
pub sizes_four : (d : Description) → length d.stream ≡ 4
    → sizes d ≡ said_of d 0 ∷ said_of d 1 ∷ said_of d 2 ∷ said_of d 3 ∷ []
sizes_four d n = ap (λ (s : List Lengths). map (λ l. l.a + l.b) s) (four d.stream n)

-- one of them less than its size
pub less_are : (ks ns : List ℕ) → list_any (λ p. ltb p.0 p.1) (zip ns ks) ≡ any_less ks ns
less_are [] [] = refl
less_are [] (n ∷ ns) = refl
less_are (k ∷ ks) [] = refl
less_are (k ∷ ks) (n ∷ ns) = ap (λ (b : Bool). ltb n k || b) (less_are ks ns)

-- building
module _ (capacity : ℕ) (d : Description) (mode : ℕ) (ns : List ℕ) (room : ℕ) (b w : Bool) (e : b ≡ bad_capacity capacity) (x : w ≡ any_long ns) where
  pub build_1 : (b || w) ≡ true → 1 ≡ refused_with (build_tests capacity d mode ns room)
  unfolding build_tests
  build_1 h = rw (← e, ← x, h) refl

  module _ (k : (b || w) ≡ false) (n : ℕ) (f : n ≡ refused_with (handed false d mode [])) where
    abbrev behind : List Test
    behind =
        test (not (filled d (get_or ns 0 0) (get_or ns 1 0) (get_or ns 2 0) (get_or ns 3 0))) 11
        ∷ test (ltb capacity (used_by d)) 12 ∷ test (ltb room capacity) 1 ∷ []

    pub build_stops : (n ≡ 0 → ⊥) → n ≡ refused_with (build_tests capacity d mode ns room)
    unfolding build_tests
    build_stops z = rw (← e, ← x, k) (handed_stops false d mode n f z behind)

    module _ (z : n ≡ 0) (o : Bool) (g : o ≡ filled d (get_or ns 0 0) (get_or ns 1 0) (get_or ns 2 0) (get_or ns 3 0)) where
      goes : pick (not o) 11 (pick (ltb capacity (used_by d)) 12 (pick (ltb room capacity) 1 0)) ≡ refused_with (build_tests capacity d mode ns room)
      unfolding build_tests
      goes = rw (← e, ← x, k, g) (handed_goes false d mode n f z behind)

      pub build_11 : o ≡ false → 11 ≡ refused_with (build_tests capacity d mode ns room)
      build_11 h = rw h at goes

      module _ (l : o ≡ true) (u : ℕ) (v : (u ≡ used_by d) × (u ≤ 524280)) where
        pub build_12 : capacity < u → 12 ≡ refused_with (build_tests capacity d mode ns room)
        build_12 h = rw (l, ← v.0, lt-ltb _ _ h) at goes

        module _ (m : u ≤ capacity) where
          pub build_short : room < capacity → 1 ≡ refused_with (build_tests capacity d mode ns room)
          build_short h = rw (l, ← v.0, le-ltb _ _ m, lt-ltb _ _ h) at goes

          pub build_0 : capacity ≤ room → 0 ≡ refused_with (build_tests capacity d mode ns room)
          build_0 h = rw (l, ← v.0, le-ltb _ _ m, le-ltb _ _ h) at goes

-- cutting: its tests are those of the layout, with one before them and one behind
one_more : (a b c e f g : Bool) → ◌≡◌ {A = ℕ} (pick a 1 (pick b 6 (pick c 9 (pick e 10 (pick f 12 (pick g 1 0))))))
    (pick (eqb (pick a 1 (pick b 6 (pick c 9 (pick e 10 (pick f 12 0))))) 0) (pick g 1 0) (pick a 1 (pick b 6 (pick c 9 (pick e 10 (pick f 12 0))))))
one_more true b c e f g = refl
one_more false true c e f g = refl
one_more false false true e f g = refl
one_more false false false true f g = refl
one_more false false false false true g = refl
one_more false false false false false g = refl

module _ (capacity : ℕ) (d : Description) (mode size : ℕ) (ns : List ℕ) where
  pub cut_1 : (size ≡ capacity → ⊥) → 1 ≡ refused_with (cut_tests capacity d mode size ns)
  unfolding cut_tests
  cut_1 h = rw (ne_eqb size capacity h, or-true) refl

  module _ (k : size ≡ capacity) (n : ℕ) (f : n ≡ refused_with (layout_tests capacity d mode)) where
    then : refused_with (cut_tests capacity d mode size ns) ≡ pick (eqb n 0) (pick (any_less (sizes d) ns) 1 0) n
    unfolding cut_tests layout_tests handed
    then = rw (eq-eqb size capacity k, or-false, f)
        (one_more (bad_capacity capacity) (false || is_too_large d || ltb 3 mode) (unserved mode) (ill_formed mode d) (ltb capacity (used_by d)) (any_less (sizes d) ns))

    pub cut_stops : (n ≡ 0 → ⊥) → n ≡ refused_with (cut_tests capacity d mode size ns)
    cut_stops z = sym (then ∙ rw (ne_eqb n 0 z) refl)

    pub cut_short : n ≡ 0 → any_less (sizes d) ns ≡ true → 1 ≡ refused_with (cut_tests capacity d mode size ns)
    cut_short z h = sym (then ∙ rw (z, h) refl)

    pub cut_0 : n ≡ 0 → any_less (sizes d) ns ≡ false → 0 ≡ refused_with (cut_tests capacity d mode size ns)
    cut_0 z h = sym (then ∙ rw (z, h) refl)
