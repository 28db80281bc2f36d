-- What the tests on one item mean. Assumes nothing.
use Prim.Native.Nat.{ℕ}
use mathlib.Core.Path.{◌≡◌, refl, sym}
use mathlib.Core.Bool.{Bool, true, false, ◌&&◌, not, true≢false}
use mathlib.Core.List.{List}
use lib.ListN.{length}
use Rattle.items.specs.Items.{Item, Found, none, some, cut_of, find, bytes_for}
use Rattle.items.proofs.Stands.{value_length_law}
use Rattle.mdi_spots.specs.Table.{absent, wrong, ill}
use Rattle.mdi_laws.specs.WellFormed.{Required, Optional}

pub not_no : (b : Bool) → not b ≡ false → b ≡ true
not_no true e = refl
not_no false e = sym e

-- a test of lengths and a test of values, and what they mean
pub record Means (ok : ℕ → Bool) (Bits : ℕ → Type 0) (good : List ℕ → Bool) (Value : List ℕ → Type 0) : Type 0 where
  pub size : (b : ℕ) → ok b ≡ true → Bits b
  pub size_back : (b : ℕ) → Bits b → ok b ≡ true
  pub value : (b : ℕ) (v : List ℕ) → length v ≡ bytes_for b → Bits b → good v ≡ true → Value v
  pub value_back : (b : ℕ) (v : List ℕ) → length v ≡ bytes_for b → Bits b → Value v → good v ≡ true

module _ (p n : List ℕ) (ok : ℕ → Bool) (Bits : ℕ → Type 0) (good : List ℕ → Bool) (Value : List ℕ → Type 0) (m : Means ok Bits good Value) where
  abbrev is : List Item
  is = (cut_of p).items

  pub required : absent (find n is) ≡ false → wrong ok (find n is) ≡ false → ill good (find n is) ≡ false → Required n Bits Value is
  unfolding absent wrong ill
  required a w i = go (find n is) refl a w i
    where
      go : (x : Found) → find n is ≡ x → absent x ≡ false → wrong ok x ≡ false → ill good x ≡ false → Required n Bits Value is
      go none e a w i = absurd (true≢false a)
      go (some x) e a w i =
          let s = m.size x.bits (not_no (ok x.bits) w) in
          record { item = x; there = e; size = s; content = m.value x.bits x.value (value_length_law p n x e) s (not_no (good x.value) i) }

  pub required_back : Required n Bits Value is → (absent (find n is) ≡ false) × (wrong ok (find n is) ≡ false) × (ill good (find n is) ≡ false)
  unfolding absent wrong ill
  required_back r =
      let g = m.value_back r.item.bits r.item.value (value_length_law p n r.item r.there) r.size r.content in
      (rw r.there refl, rw (r.there, m.size_back _ r.size) refl, rw (r.there, g) refl)

  pub optional : wrong ok (find n is) ≡ false → ill good (find n is) ≡ false → Optional n Bits Value is
  unfolding wrong ill
  optional w i x e =
      let s = m.size x.bits (not_no (ok x.bits) (rw e at w)) in
      (s, m.value x.bits x.value (value_length_law p n x e) s (not_no (good x.value) (rw e at i)))

  pub optional_back : Optional n Bits Value is → (wrong ok (find n is) ≡ false) × (ill good (find n is) ≡ false)
  unfolding wrong ill
  optional_back o = go (find n is) refl
    where
      go : (x : Found) → find n is ≡ x → (wrong ok x ≡ false) × (ill good x ≡ false)
      go none e = (refl, refl)
      go (some x) e =
          let s = (o x e).0 in
          (rw (m.size_back x.bits s) refl, rw (m.value_back x.bits x.value (value_length_law p n x e) s (o x e).1) refl)

-- any value
abbrev pub always : List ℕ → Bool
always v = true

pub ill_always : (f : Found) → ill always f ≡ false
unfolding ill
ill_always none = refl
ill_always (some i) = refl

-- two tests on a value
pub ill_both : (a b : List ℕ → Bool) (f : Found) → ill a f ≡ false → ill b f ≡ false → ill (λ v. a v && b v) f ≡ false
unfolding ill
ill_both a b none p q = refl
ill_both a b (some i) p q = rw (not_no (a i.value) p, not_no (b i.value) q) refl

and_no : (x y : Bool) → not (x && y) ≡ false → (not x ≡ false) × (not y ≡ false)
and_no true y e = (refl, e)
and_no false y e = absurd (true≢false e)

pub ill_each : (a b : List ℕ → Bool) (f : Found) → ill (λ v. a v && b v) f ≡ false → (ill a f ≡ false) × (ill b f ≡ false)
unfolding ill
ill_each a b none p = (refl, refl)
ill_each a b (some i) p = and_no (a i.value) (b i.value) p
