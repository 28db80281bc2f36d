-- What the program answers, by the way taken through its tests. Assumes nothing.
use mathlib.Core.Path.{◌≡◌, refl, sym, ap, ap₂, ◌∙◌}
use mathlib.Core.Bool.{Bool, true, false}
use mathlib.Core.List.{List, [], ◌∷◌}
use Prim.Native.Nat.{ℕ, ◌-◌, ◌≤◌, ◌<◌}
use native.Mathlib.Nat.{zero-add}
use native.Mathlib.Omega.{arith}
use borrow.Author.Tests.{lt-ltb, le-ltb, ne_eqb}
use lib.ListN.{length, drop, length-drop}
use lib.Seq.{take_all, length-take-le}
use Rattle.laws.specs.Written.{written}
use Rattle.laws.proofs.Written.{written_length}
use Rattle.io.specs.Counts.{IsPrefixLen}
use Rattle.moves.specs.Moves.{Puts}
use Rattle.moves.proofs.Pieces.{puts_same}
use Rattle.description.specs.declared.Description.{Description}
use Rattle.places.specs.declared.Placement.{Placement}
use Rattle.std.specs.Prelude.{Result, Ok, Err, IfOk, Option, Some, None}
use Rattle.std.specs.Option.{unwrap_or}
use Rattle.std.specs.Slice.{IsGetRangeResult}
use denote.Bor.{Bor}
use mathlib.Core.Logic.{⊎_elim}
use Rattle.refusal.specs.declared.Refusal.{Refusal}
use Rattle.refusal.specs.Refusal.{number_in}
use Rattle.places.proofs.Placing.{laid, laid_at}
use Rattle.description.specs.Bytes.{described_by}
use Rattle.description.specs.Answers.{value_length, handed}
use Rattle.places.specs.Parts.{parts_of, padding_of, bad_capacity, layout_tests, Places, places_in, layout_for}
use Rattle.description.proofs.RoundTrips.{small}
use Rattle.line_text.specs.Decimal.{ascii, number_line}
use Rattle.layout_text.specs.Text.{lines_of, capacity_in, described_in, tests_for, number_for, text_of}

-- what stands behind the first two bytes
pub value_is : (s : List ℕ) (o : Option (Bor (List ℕ))) (none : Bor (List ℕ)) → none.now ≡ [] → IsGetRangeResult s 2 (length s) o
    → (unwrap_or o none).now ≡ drop 2 s
value_is s (Some r) none e h = h.0.2 ∙ take_all (length s - 2) (drop 2 s) (simp length-drop (omega arith))
value_is [] None none e h = e
value_is (x ∷ []) None none e h = e
value_is (x ∷ y ∷ s) None none e h = absurd (⊎_elim (λ k. omega arith) (λ k. omega arith) h.0)

number_said : (r : Result Placement Refusal) → number_in r ≡ (places_in r).number
number_said (Ok p) = refl
number_said (Err why) = refl

module _ (s : List ℕ) where
  pub short : length s < 2 → 1 ≡ number_for s
  unfolding number_for tests_for
  short h = rw (lt-ltb _ _ h)

  module _ (h : 2 ≤ length s) where
    pub long : 65528 < length s → 1 ≡ number_for s
    unfolding number_for tests_for
    long l = rw (le-ltb _ _ h, lt-ltb _ _ l)

    module _ (l : length s ≤ 65528) (c : ℕ) (e : c ≡ capacity_in s) (b : Bool) (f : b ≡ bad_capacity c) where
      pub unfit : b ≡ true → 1 ≡ number_for s
      unfolding number_for tests_for
      unfit g = rw (le-ltb _ _ h, le-ltb _ _ l, ← e, ← f, g)

      module _ (g : b ≡ false) (v : List ℕ) (p : v ≡ drop 2 s) (t : Bool) (q : t ≡ value_length (length v)) where
        pub wrong_length : t ≡ false → 5 ≡ number_for s
        unfolding number_for tests_for
        wrong_length k = rw (le-ltb _ _ h, le-ltb _ _ l, ← e, ← f, g, ← p, ← q, k)

        pub rest : t ≡ true → (d : Description) → d ≡ described_by v → (r : Result Placement Refusal) → places_in r ≡ layout_for c d 0
            → number_in r ≡ number_for s
        unfolding number_for tests_for layout_tests handed
        rest k d w r x =
            let n = number_said r ∙ laid c d 0 (places_in r) x in
            n ∙ rw (le-ltb _ _ h, le-ltb _ _ l, ← e, ← f, g, ← p, ← q, k, w, small v) refl

-- where the parts and the padding then stand
pub placed_as : (s : List ℕ) (c : ℕ) → c ≡ capacity_in s → (v : List ℕ) → v ≡ drop 2 s → (d : Description) → d ≡ described_by v
    → (r : Result Placement Refusal) → places_in r ≡ layout_for c d 0
    → IfOk r (λ p. (p.part ≡ parts_of (described_in s)) × (p.padding ≡ padding_of (capacity_in s) (described_in s)))
placed_as s c e v f d g (Err why) x = tt
placed_as s c e v f d g (Ok p) x =
    let m : d ≡ described_in s = g ∙ ap described_by f in
    let y = laid_at c d 0 (places_in (Ok p)) x refl in
    (ap (λ (q : Places). q.part) y ∙ ap parts_of m, ap (λ (q : Places). q.padding) y ∙ ap₂ padding_of e m)

-- a refusal's line
pub refused : (s d e : List ℕ) (n r : ℕ) → n ≡ number_for s → (n ≡ 0 → ⊥) → Puts d 0 (number_line (ascii "refused ") n) e r
    → (r ≡ length (text_of s)) × (e ≡ written d 0 (text_of s))
unfolding text_of
refused s d e n r q z p = rw (← q, ne_eqb n 0 z) (p.end ∙ omega arith, p.text)

-- nothing refused
pub done : (s d e : List ℕ) (r c : ℕ) (p : Placement) → 0 ≡ number_for s → c ≡ capacity_in s
    → (p.part ≡ parts_of (described_in s)) × (p.padding ≡ padding_of (capacity_in s) (described_in s)) → Puts d 0 (lines_of c p.part p.padding) e r
    → (r ≡ length (text_of s)) × (e ≡ written d 0 (text_of s))
unfolding text_of
done s d e r c p q k h t =
    let w : lines_of c p.part p.padding ≡ lines_of (capacity_in s) (parts_of (described_in s)) (padding_of (capacity_in s) (described_in s)) = rw (k, h.0, h.1) refl in
    let u = puts_same w t in
    rw (← q) (u.end ∙ zero-add (length (lines_of (capacity_in s) (parts_of (described_in s)) (padding_of (capacity_in s) (described_in s)))), u.text)

-- the answer counts bytes of the buffer
pub counted : (d e xs : List ℕ) (r : ℕ) → length d ≡ 1024 → r ≤ 1024 → r ≡ length xs → e ≡ written d 0 xs → IsPrefixLen r e
counted d e xs r m h p q =
    let n : length (written d 0 xs) ≡ length d = written_length d 0 xs (omega arith) in
    let k : length e ≡ length d = ap length q ∙ n in
    let l : r ≤ length e = omega arith in
    (l, sym (length-take-le r e l))
