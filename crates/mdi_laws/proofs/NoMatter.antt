-- What does not matter, of packets built from items. Assumes nothing.
use Prim.Native.Nat.{ℕ, ◌+◌, ◌≤◌}
use mathlib.Core.Path.{◌≡◌, refl, sym, ap, ◌∙◌, subst}
use mathlib.Core.Bool.{Bool, true, false, true≢false}
use mathlib.Core.List.{List, [], ◌∷◌, ◌++◌}
use native.Mathlib.Omega.{arith}
use lib.ListN.{length, length-append}
use Rattle.laws.specs.Pick.{pick}
use Rattle.items.specs.Items.{Item, Cut, Found, none, some, cut_of, same_name, among, find, All, Once}
use Rattle.items.specs.Joined.{joined, placed, Sound, total, bare}
use Rattle.items.specs.Order.{Reordered}
use Rattle.items.proofs.Exact.{exact}
use Rattle.items.proofs.Joins.{find_placed, joined_length}
use Rattle.items.proofs.Names.{same_list}
use Rattle.items.proofs.Order.{all_in, all_out, once_in, once_out, once_others, once_at, total_in, all_order, once_order, total_order, find_skip, find_order}
use Rattle.mdi_spots.specs.Names.{ptr, sdci}
use Rattle.mdi_laws.specs.Ignored.{ButMinor, ButReserved}
use Rattle.mdi_laws.specs.NoMatter.{known, Packs, ReadAlike, with_value, NoMatter}
use Rattle.mdi_laws.proofs.Ignored.{Like, Same, Alike, Plain, ignored, ignored_stream}

-- ---- what is found in both

module _ (R : List ℕ → List ℕ → Type 0) where
  to_bare : (f g : Found) → Like R f g → Like R (bare f) (bare g)
  unfolding bare
  to_bare none none l = l
  to_bare none (some j) l = l
  to_bare (some i) none l = l
  to_bare (some i) (some j) l = l

  from_bare : (f g : Found) → Like R (bare f) (bare g) → Like R f g
  unfolding bare
  from_bare none none l = l
  from_bare none (some j) l = l
  from_bare (some i) none l = l
  from_bare (some i) (some j) l = l

  -- wherever the items stand
  like_placed : (n : List ℕ) (is js : List Item) → Like R (find n is) (find n js) → Like R (find n (placed 0 is)) (find n (placed 0 js))
  like_placed n is js l =
      from_bare (find n (placed 0 is)) (find n (placed 0 js))
      (rw (find_placed n is 0, find_placed n js 0) (to_bare (find n is) (find n js) l))

  module _ (self : (v : List ℕ) → R v v) where
    like_self : (f : Found) → Like R f f
    like_self none = tt
    like_self (some i) = (refl, self i.value)

    like_same : (f g : Found) → f ≡ g → Like R f g
    like_same f g e = subst (Like R f) e (like_self f)

    like_changed : (n : List ℕ) (a b : List Item) (i : Item) (v : List ℕ) → R i.value v → Like R (find n (a ++ (i ∷ b))) (find n (a ++ (with_value i v ∷ b)))
    unfolding find
    like_changed n [] b i v r = go (same_name n i.name)
      where
        go : (t : Bool) → Like R (pick t (some i) (find n b)) (pick t (some (with_value i v)) (find n b))
        go true = (refl, r)
        go false = like_self (find n b)
    like_changed n (j ∷ a) b i v r = go (same_name n j.name) (like_changed n a b i v r)
      where
        go : (t : Bool) → Like R (find n (a ++ (i ∷ b))) (find n (a ++ (with_value i v ∷ b)))
            → Like R (pick t (some j) (find n (a ++ (i ∷ b)))) (pick t (some j) (find n (a ++ (with_value i v ∷ b))))
        go true ih = like_self (some j)
        go false ih = ih

same_self : (v : List ℕ) → Same v v
same_self v = refl

minor_self : (v : List ℕ) → ButMinor v v
minor_self v = refl

reserved_self : (v : List ℕ) → ButReserved v v
reserved_self v = record { size = refl; levels = refl; rest = refl }

-- ---- lists that differ in nothing that matters

alike_placed : (is js : List Item) → Alike is js → Alike (placed 0 is) (placed 0 js)
alike_placed is js m =
    record {
      header = like_placed ButMinor ptr is js m.header;
      description = like_placed ButReserved sdci is js m.description;
      others = λ n k p d. like_placed Same n is js (m.others n k p d);
    }

alike_same : (is js : List Item) → ((n : List ℕ) → among n known ≡ true → find n is ≡ find n js) → Alike is js
unfolding among same_name
alike_same is js h =
    record {
      header = like_same ButMinor minor_self (find ptr is) (find ptr js) (h ptr refl);
      description = like_same ButReserved reserved_self (find sdci is) (find sdci js) (h sdci refl);
      others = λ n k p d. like_same Same same_self (find n is) (find n js) (h n k);
    }

-- ---- their packets

module _ (is : List Item) (r : List ℕ) (p : Packs is r) where
  cut_is : cut_of (joined is ++ r) ≡ record { items = placed 0 is; stop = length (joined is) }
  cut_is = exact.only is r p.sound (exact.short r p.few)

  items_are : (cut_of (joined is ++ r)).items ≡ placed 0 is
  items_are = ap (λ (c : Cut). c.items) cut_is

  pub plain : Plain (joined is ++ r)
  plain =
      let s : (cut_of (joined is ++ r)).stop ≡ length (joined is) = ap (λ (c : Cut). c.stop) cut_is in
      let l = length-append (joined is) r in
      let f = p.few in
      record { short = p.short; whole = omega arith; once = subst Once (sym items_are) (once_at is 0 p.once) }

read_alike : (is js : List Item) (r s : List ℕ) → Packs is r → Packs js s → Alike is js → ReadAlike (joined is ++ r) (joined js ++ s)
read_alike is js r s p q m =
    let l : Alike (cut_of (joined is ++ r)).items (cut_of (joined js ++ s)).items = rw (items_are is r p, items_are js s q) (alike_placed is js m) in
    record {
      content = ignored (joined is ++ r) (joined js ++ s) (plain is r p) (plain js s q) l;
      stream = ignored_stream (joined is ++ r) (joined js ++ s) (plain is r p) (plain js s q) l;
    }

-- lengths
size_is : (is : List Item) (r : List ℕ) → All Sound is → length (joined is ++ r) ≡ total is + length r
size_is is r s = length-append (joined is) r ∙ ap (λ (n : ℕ). n + length r) (joined_length is s)

-- as few bytes, and as good
packs_as : (is js : List Item) (r s : List ℕ) → Packs is r → All Sound js → Once js → total js ≤ total is → length s ≤ length r → Packs js s
packs_as is js r s p a o t l =
    let x = size_is is r p.sound in
    let y = size_is js s a in
    let h = p.short in
    let f = p.few in
    record { sound = a; once = o; few = omega arith; short = omega arith }

-- ---- an unknown item

not_named : (n m : List ℕ) → among n known ≡ true → among m known ≡ false → same_name n m ≡ false
not_named n m k u = go (same_name n m) refl
  where
    go : (t : Bool) → same_name n m ≡ t → t ≡ false
    go true e = absurd (true≢false (sym k ∙ ap (λ (x : List ℕ). among x known) (same_list n m e) ∙ u))
    go false e = refl

module _ (a b : List Item) (i : Item) (r : List ℕ) (p : Packs (a ++ (i ∷ b)) r) where
  without : Packs (a ++ b) r
  without =
      packs_as (a ++ (i ∷ b)) (a ++ b) r r p (all_out Sound a b i p.sound).1 (once_out a b i p.once)
      (let t = total_in a b i in omega arith) (omega arith)

  unknown : among i.name known ≡ false → ReadAlike (joined (a ++ (i ∷ b)) ++ r) (joined (a ++ b) ++ r)
  unknown u =
      read_alike (a ++ (i ∷ b)) (a ++ b) r r p without
      (alike_same (a ++ (i ∷ b)) (a ++ b) (λ n k. find_skip n a b i (not_named n i.name k u)))

  -- ---- another value of the same length

  module _ (v : List ℕ) (l : length v ≡ length i.value) where
    changed : Packs (a ++ (with_value i v ∷ b)) r
    changed =
        let s = all_out Sound a b i p.sound in
        let w : Sound (with_value i v) = record { four = s.0.four; small = s.0.small; whole = l ∙ s.0.whole } in
        packs_as (a ++ (i ∷ b)) (a ++ (with_value i v ∷ b)) r r p (all_in Sound a b (with_value i v) w s.1)
        (once_in a b (with_value i v) (once_others a b i p.once) (once_out a b i p.once))
        (let t = total_in a b i in let u = total_in a b (with_value i v) in omega arith) (omega arith)

    passed : (n : List ℕ) → same_name n i.name ≡ false → find n (a ++ (i ∷ b)) ≡ find n (a ++ (with_value i v ∷ b))
    passed n e = find_skip n a b i e ∙ sym (find_skip n a b (with_value i v) e)

    minor : i.name ≡ ptr → ButMinor i.value v → ReadAlike (joined (a ++ (i ∷ b)) ++ r) (joined (a ++ (with_value i v ∷ b)) ++ r)
    unfolding same_name
    minor e h =
        let o : (n : List ℕ) → same_name n ptr ≡ false → find n (a ++ (i ∷ b)) ≡ find n (a ++ (with_value i v ∷ b)) = λ n f. passed n (ap (same_name n) e ∙ f) in
        read_alike (a ++ (i ∷ b)) (a ++ (with_value i v ∷ b)) r r p changed
        (record {
          header = like_changed ButMinor minor_self ptr a b i v h;
          description = like_same ButReserved reserved_self (find sdci (a ++ (i ∷ b))) (find sdci (a ++ (with_value i v ∷ b))) (o sdci refl);
          others = λ n k f d. like_same Same same_self (find n (a ++ (i ∷ b))) (find n (a ++ (with_value i v ∷ b))) (o n f);
        })

    reserved : i.name ≡ sdci → ButReserved i.value v → ReadAlike (joined (a ++ (i ∷ b)) ++ r) (joined (a ++ (with_value i v ∷ b)) ++ r)
    unfolding same_name
    reserved e h =
        let o : (n : List ℕ) → same_name n sdci ≡ false → find n (a ++ (i ∷ b)) ≡ find n (a ++ (with_value i v ∷ b)) = λ n f. passed n (ap (same_name n) e ∙ f) in
        read_alike (a ++ (i ∷ b)) (a ++ (with_value i v ∷ b)) r r p changed
        (record {
          header = like_same ButMinor minor_self (find ptr (a ++ (i ∷ b))) (find ptr (a ++ (with_value i v ∷ b))) (o ptr refl);
          description = like_changed ButReserved reserved_self sdci a b i v h;
          others = λ n k f d. like_same Same same_self (find n (a ++ (i ∷ b))) (find n (a ++ (with_value i v ∷ b))) (o n d);
        })

-- ---- the order, and padding

order : (is js : List Item) (r : List ℕ) → Reordered is js → Packs is r → ReadAlike (joined is ++ r) (joined js ++ r)
order is js r o p =
    let t = total_order is js o in
    read_alike is js r r p (packs_as is js r r p (all_order Sound is js o p.sound) (once_order is js o p.once) (omega arith) (omega arith))
    (alike_same is js (λ n k. find_order n is js o p.once))

padding : (is : List Item) (r s : List ℕ) → Packs is r → Packs is s → ReadAlike (joined is ++ r) (joined is ++ s)
padding is r s p q = read_alike is is r s p q (alike_same is is (λ n k. refl))

-- an empty padding, where some padding is
pub bare_packs : (is : List Item) (r : List ℕ) → Packs is r → Packs is []
bare_packs is r p = packs_as is is r [] p p.sound p.once (omega arith) (omega arith)

-- THE THEOREM
pub no_matter : NoMatter
no_matter =
    record {
      unknown = λ a b i r u p. unknown a b i r p u;
      order = order;
      padding = padding;
      minor = λ a b i v r e l h p. minor a b i r p v l e h;
      reserved = λ a b i v r e h p. reserved a b i r p v (sym h.size) e h;
    }
