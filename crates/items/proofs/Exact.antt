-- The walk is right, both ways. Assumes nothing.
use Prim.Native.Nat.{ℕ, zero, suc, ◌+◌, ◌≤◌}
use mathlib.Core.Path.{◌≡◌, refl, sym, ap, ap₂, ◌∙◌, subst}
use mathlib.Core.Bool.{Bool, true, false}
use mathlib.Core.List.{List, ◌∷◌, ◌++◌, append_assoc}
use native.Mathlib.Omega.{arith}
use borrow.Author.Tests.{le-leb, leb-true, leb-false}
use lib.Dec.{leb}
use native.Mathlib.Nat.{zero-add}
use lib.ListN.{length, take, drop, length-drop, length-append, take-append-drop}
use lib.Seq.{drop_at, drop-drop, length-take-le, take-add}
use Rattle.laws.specs.Big.{Bytes, bytes_of, big_of, number_at}
use Rattle.laws.proofs.Big.{bytes_take, bytes_drop, bytes_back, big_lt}
use Rattle.items.specs.Items.{Item, Cut, bytes_for, bits_at, size_of, item_at, no_item, item_then, cut_from, cut_of, All}
use Rattle.items.specs.Joined.{item_bytes, wire_of, joined, placed, Sound}
use Rattle.items.specs.Exact.{NoItem, rest_of, Exact}
use Rattle.items.proofs.Rule.{cut_item, cut_none, size_pos}
use Rattle.items.proofs.Joins.{wire_length, cut_whole}

-- ---- a whole item at the front

module _ (s : List ℕ) (at : ℕ) (b : Bytes s) (h : size_of s ≤ length s) where
  eight : 8 ≤ length s
  eight = omega (arith, size_pos s)

  word_length : length (take 4 (drop 4 s)) ≡ 4
  word_length = let e = eight in let l = length-drop 4 s in length-take-le 4 (drop 4 s) (omega arith)

  bits_are : bits_at s ≡ big_of (take 4 (drop 4 s))
  unfolding bits_at number_at
  bits_are = let e = eight in let k : 4 + 4 ≤ length s = omega arith in rw (le-leb (4 + 4) (length s) k) refl

  word_is : bytes_of 4 (bits_at s) ≡ take 4 (drop 4 s)
  word_is =
      ap (bytes_of 4) bits_are
      ∙ ap (λ (n : ℕ). bytes_of n (big_of (take 4 (drop 4 s)))) (sym word_length)
      ∙ bytes_back (take 4 (drop 4 s)) (bytes_take 4 (drop 4 s) (bytes_drop 4 s b))

  value_size_law : length (take (bytes_for (bits_at s)) (drop 8 s)) ≡ bytes_for (bits_at s)
  unfolding size_of
  value_size_law = let l = length-drop 8 s in length-take-le (bytes_for (bits_at s)) (drop 8 s) (omega arith)

  here_sound : Sound (item_at s at)
  unfolding item_at
  here_sound =
      let e = eight in
      record {
        four = length-take-le 4 s (omega arith);
        small = rw bits_are (rw word_length at (big_lt (take 4 (drop 4 s)) (bytes_take 4 (drop 4 s) (bytes_drop 4 s b))));
        whole = value_size_law;
      }

  here_size : size_of s ≡ 8 + length (item_at s at).value
  unfolding size_of item_at
  here_size = ap (λ (n : ℕ). 8 + n) (sym value_size_law)

  wire_is : wire_of (item_at s at) ≡ take (size_of s) s
  unfolding wire_of item_bytes item_at size_of
  wire_is =
      let n = bytes_for (bits_at s) in
      let e : 4 + (4 + n) ≡ 8 + n = omega arith in
      ap (λ (w : List ℕ). take 4 s ++ (w ++ take n (drop 8 s))) word_is
      ∙ ap (λ (w : List ℕ). take 4 s ++ (take 4 (drop 4 s) ++ take n w)) (sym (drop-drop 4 4 s))
      ∙ ap (λ (w : List ℕ). take 4 s ++ w) (sym (take-add 4 n (drop 4 s)))
      ∙ sym (take-add 4 (4 + n) s)
      ∙ ap (λ (k : ℕ). take k s) e

  -- its bytes, and the others
  here_bytes : s ≡ wire_of (item_at s at) ++ drop (size_of s) s
  here_bytes = sym (take-append-drop (size_of s) s) ∙ ap (λ (l : List ℕ). l ++ drop (size_of s) s) (sym wire_is)

-- ---- the walk, by as many steps as there are bytes

-- s, which stands at an offset, is what it was cut into
record Cuts (s : List ℕ) (at : ℕ) (c : Cut) : Type 0 where
  rest : List ℕ
  all : s ≡ joined c.items ++ rest
  stop : c.stop ≡ at + length (joined c.items)
  sound : All Sound c.items
  places : c.items ≡ placed at c.items
  over : NoItem rest

nothing_here : (s : List ℕ) (at : ℕ) → NoItem s → Cuts s at (cut_from s at)
unfolding no_item joined placed
nothing_here s at h =
    subst (Cuts s at) (sym (cut_none s at h))
    (record { rest = s; all = refl; stop = omega arith; sound = tt; places = refl; over = h })

item_here : (s : List ℕ) (at : ℕ) → Bytes s → size_of s ≤ length s
    → Cuts (drop (size_of s) s) (at + size_of s) (cut_from (drop (size_of s) s) (at + size_of s)) → Cuts s at (cut_from s at)
unfolding item_then joined placed item_at
item_here s at b h c =
    let i = item_at s at in
    let is = (cut_from (drop (size_of s) s) (at + size_of s)).items in
    let w = here_sound s at b h in
    let z = here_size s at b h in
    let q : at + size_of s ≡ at + (8 + length i.value) = ap (λ (k : ℕ). at + k) z in
    let l = length-append (wire_of i) (joined is) in
    let m = wire_length i w in
    let e = c.stop in
    subst (Cuts s at) (sym (cut_item s at h))
    (record {
      rest = c.rest;
      all = here_bytes s at b h ∙ ap (λ (t : List ℕ). wire_of i ++ t) c.all ∙ sym (append_assoc (wire_of i) (joined is) c.rest);
      stop = omega arith;
      sound = (w, c.sound);
      places = ap₂ (λ (j : Item) (js : List Item). j ∷ js) refl (c.places ∙ ap (λ (k : ℕ). placed k is) q);
      over = c.over;
    })

cuts : (n : ℕ) (s : List ℕ) (at : ℕ) → length s ≤ n → Bytes s → Cuts s at (cut_from s at)
cuts zero s at l b = nothing_here s at (omega (arith, size_pos s))
cuts (suc n) s at l b =
    go (leb (size_of s) (length s)) refl
    (λ h. cuts n (drop (size_of s) s) (at + size_of s) (omega (arith, length-drop (size_of s) s, size_pos s)) (bytes_drop (size_of s) s b))
  where
    go : (t : Bool) → leb (size_of s) (length s) ≡ t → (size_of s ≤ length s → Cuts (drop (size_of s) s) (at + size_of s) (cut_from (drop (size_of s) s) (at + size_of s)))
        → Cuts s at (cut_from s at)
    go true e ih = let h : size_of s ≤ length s = leb-true _ _ e in item_here s at b h (ih h)
    go false e ih = nothing_here s at (leb-false _ _ e)

-- ---- THE THEOREM

module _ (p : List ℕ) (b : Bytes p) where
  whole : Cuts p 0 (cut_of p)
  unfolding cut_of
  whole = cuts (length p) p 0 (omega arith) b

  stops : (cut_of p).stop ≡ length (joined (cut_of p).items)
  stops = whole.stop ∙ zero-add (length (joined (cut_of p).items))

  rest_is : rest_of p ≡ whole.rest
  rest_is = ap (drop (cut_of p).stop) whole.all ∙ drop_at (joined (cut_of p).items) whole.rest (cut_of p).stop (sym stops)

pub exact : Exact
exact =
    record {
      all = λ p b. (whole p b).all ∙ ap (λ (r : List ℕ). joined (cut_of p).items ++ r) (sym (rest_is p b));
      stop = stops;
      sound = λ p b. (whole p b).sound;
      places = λ p b. (whole p b).places;
      rest = λ p b. subst NoItem (sym (rest_is p b)) (whole p b).over;
      only = cut_whole;
      short = λ r h. omega (arith, size_pos r);
    }
