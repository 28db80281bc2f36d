-- No name stands twice exactly if no item is found whose name came earlier. Assumes nothing.
use mathlib.Core.Path.{◌≡◌, refl, sym, ap, ◌∙◌}
use mathlib.Core.Bool.{Bool, true, false, true≢false}
use mathlib.Core.List.{List, [], ◌∷◌}
use Prim.Native.Nat.{ℕ}
use native.Mathlib.Omega.{arith}
use Rattle.laws.specs.Pick.{pick}
use Rattle.laws.proofs.Flags.{or_false}
use Rattle.items.specs.Items.{Item, Found, none, some, same_name, among, again, twice, is_there, All, Once}
use Rattle.items.proofs.Names.{list_same, same_no}

-- an item has none of these names
abbrev New : List (List ℕ) → Item → Type 0
New came i = among i.name came ≡ false

there_no : (f : Found) → is_there f ≡ false → f ≡ none
unfolding is_there
there_no none e = refl
there_no (some i) e = absurd (true≢false e)

split : (m : List ℕ) (came : List (List ℕ)) (is : List Item) → All (New (m ∷ came)) is → All (λ j. m ≡ j.name → ⊥) is × All (New came) is
unfolding among
split m came [] a = (tt, tt)
split m came (j ∷ is) a =
    let o = or_false (same_name j.name m) (among j.name came) a.0 in
    let r = split m came is a.1 in
    ((λ e. true≢false (sym (list_same j.name m (sym e)) ∙ o.0), r.0), (o.1, r.1))

join : (m : List ℕ) (came : List (List ℕ)) (is : List Item) → All (λ j. m ≡ j.name → ⊥) is → All (New came) is → All (New (m ∷ came)) is
unfolding among
join m came [] a b = tt
join m came (j ∷ is) a b = (rw (same_no j.name m (λ e. a.0 (sym e))) b.0, join m came is a.1 b.1)

fresh : (came : List (List ℕ)) (is : List Item) → again came is ≡ none → All (New came) is × Once is
unfolding again
fresh came [] e = (tt, tt)
fresh came (i ∷ is) e = go (among i.name came) refl e (fresh (i.name ∷ came) is)
  where
    go : (b : Bool) → among i.name came ≡ b → pick b (some i) (again (i.name ∷ came) is) ≡ none
        → (again (i.name ∷ came) is ≡ none → All (New (i.name ∷ came)) is × Once is) → All (New came) (i ∷ is) × Once (i ∷ is)
    go true f e ih = absurd (let z : ◌≡◌ {A = ℕ} 0 1 = cc in omega arith)
    go false f e ih = let r = ih e in let s = split i.name came is r.0 in ((f, s.1), (s.0, r.1))

fresh_back : (came : List (List ℕ)) (is : List Item) → All (New came) is → Once is → again came is ≡ none
unfolding again
fresh_back came [] a o = refl
fresh_back came (i ∷ is) a o = rw a.0 (fresh_back (i.name ∷ came) is (join i.name came is o.0 a.1) o.1)

none_came : (is : List Item) → All (New []) is
unfolding among
none_came [] = tt
none_came (i ∷ is) = (refl, none_came is)

-- THE MEANING
pub once_of : (is : List Item) → is_there (twice is) ≡ false → Once is
unfolding twice
once_of is e = (fresh [] is (there_no (twice is) e)).1

pub of_once : (is : List Item) → Once is → is_there (twice is) ≡ false
unfolding twice is_there
of_once is o = ap is_there (fresh_back [] is (none_came is) o)
