-- What is found of a table row in the packet written from it: nothing where its value is empty, else the row. Assumes nothing.
use Prim.Native.Nat.{ℕ, ◌*◌}
use mathlib.Core.Path.{◌≡◌, refl, sym, ap}
use mathlib.Core.Bool.{Bool, true, false, true≢false}
use mathlib.Core.List.{List, [], ◌∷◌}
use native.Mathlib.Omega.{arith}
use borrow.Author.Tests.{eqb-true, eqb-false}
use lib.Dec.{eqb}
use lib.ListN.{length}
use Rattle.laws.specs.Pick.{pick}
use Rattle.items.specs.Items.{Item, Found, none, some, value_of}
use Rattle.items.specs.Joined.{bare, keep}
use Rattle.mdi_spots.specs.Table.{absent, wrong, ill}
use Rattle.mdi_write.specs.Packet.{entry}

-- the item found has the row's length and value
pub record Held (f : Found) (v : List ℕ) : Type 0 where
  pub item : Item
  pub there : f ≡ some item
  pub bits : item.bits ≡ 8 * length v
  pub value : item.value ≡ v
  pub filled : length v ≡ 0 → ⊥

pub record Gone (f : Found) (v : List ℕ) : Type 0 where
  pub none_there : f ≡ none
  pub empty : v ≡ []

pub data Stood (f : Found) (v : List ℕ) : Type 0 where
  gone : Gone f v → Stood f v
  held : Held f v → Stood f v

nothing : (v : List ℕ) → 8 * length v ≡ 0 → v ≡ []
nothing [] e = refl
nothing (x ∷ v) e = absurd (omega arith)

abbrev bits_in : Found → ℕ
bits_in none = 0
bits_in (some i) = i.bits

abbrev is_some : Found → Bool
is_some none = false
is_some (some i) = true

by_test : (f : Found) (n v : List ℕ) (b : Bool) → eqb (8 * length v) 0 ≡ b → bare f ≡ bare (pick b none (some (entry n v))) → Stood f v
unfolding bare
by_test none n v true q e = gone (record { none_there = refl; empty = nothing v (eqb-true _ _ q) })
by_test (some i) n v true q e = absurd (true≢false (ap is_some e))
by_test none n v false q e = absurd (true≢false (sym (ap is_some e)))
by_test (some i) n v false q e =
    held (record {
      item = i;
      there = refl;
      bits = ap bits_in e;
      value = ap (λ (x : Found). value_in x) e;
      filled = λ z. eqb-false (8 * length v) 0 q (omega arith);
    })
  where
    value_in : Found → List ℕ
    value_in none = []
    value_in (some j) = j.value

pub stood : (f : Found) (n v : List ℕ) → bare f ≡ bare (keep (some (entry n v))) → Stood f v
unfolding keep
stood f n v e = by_test f n v (eqb (8 * length v) 0) refl e

module _ (f : Found) (v : List ℕ) where
  pub value_stood : Stood f v → value_of f ≡ v
  unfolding value_of
  value_stood (gone g) = rw (g.none_there, g.empty) refl
  value_stood (held h) = rw h.there h.value

  pub there_stood : Stood f v → (length v ≡ 0 → ⊥) → absent f ≡ false
  unfolding absent
  there_stood (gone g) z = absurd (z (ap length g.empty))
  there_stood (held h) z = rw h.there refl

  pub size_stood : (ok : ℕ → Bool) → Stood f v → ((length v ≡ 0 → ⊥) → ok (8 * length v) ≡ true) → wrong ok f ≡ false
  unfolding wrong
  size_stood ok (gone g) k = rw g.none_there refl
  size_stood ok (held h) k = rw (h.there, h.bits, k h.filled) refl

  pub good_stood : (good : List ℕ → Bool) → Stood f v → ((length v ≡ 0 → ⊥) → good v ≡ true) → ill good f ≡ false
  unfolding ill
  good_stood good (gone g) k = rw g.none_there refl
  good_stood good (held h) k = rw (h.there, h.value, k h.filled) refl
