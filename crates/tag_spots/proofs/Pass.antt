-- One walk over the items finds the first of each row. Assumes nothing.
use Prim.Native.Nat.{ℕ, ◌+◌, ◌≤◌, ◌<◌}
use mathlib.Core.Path.{◌≡◌, refl, sym, ap, ap₂, ◌∙◌}
use mathlib.Core.Bool.{Bool, true, false, ◌&&◌}
use mathlib.Core.List.{List, ◌∷◌}
use native.Mathlib.Omega.{arith}
use borrow.Author.Tests.{ne_eqb}
use lib.Dec.{eqb}
use lib.ListN.{length, get_or, drop}
use lib.Seq.{ext_get_or}
use Rattle.laws.specs.Pick.{pick}
use Rattle.laws.specs.Big.{big_of, number_at}
use Rattle.items.specs.Items.{Item, Cut, Found, none, some, item_at, no_item, item_then, cut_from, cut_of, size_at, spot_of}
use Rattle.items.specs.declared.Spot.{Spot}
use Rattle.items.proofs.Rule.{at_none, at_item, at_fits}
use Rattle.items.proofs.Passes.{name_number, bits_later}
use Rattle.tag_spots.specs.Rows.{each, keyed, spot_at, taken, row_after, starts_after, bits_after}
use Rattle.tag_spots.specs.Notes.{row_of, noted_at}
use Rattle.tag_spots.proofs.Rows.{Only, noted, noted_length, noted_row}
use Rattle.tag_spots.proofs.Search.{each_length, each_at}

stays : (x : Spot) (f : Found) → eqb x.start 0 ≡ false → taken x f ≡ x
stays x none e = refl
stays x (some i) e = rw e refl

not_zero : (i : Item) → (spot_of (some i)).start ≡ 0 → ⊥
unfolding spot_of
not_zero i e = omega arith

taken_more : (k : ℕ) (x : Spot) (i : Item) (is : List Item) → taken (noted x (eqb k (big_of i.name)) (spot_of (some i))) (keyed k is) ≡ taken x (keyed k (i ∷ is))
unfolding noted keyed
taken_more k x i is = go (eqb k (big_of i.name)) (eqb x.start 0) refl
  where
    behind : eqb (spot_of (some i)).start 0 ≡ false
    behind = ne_eqb (spot_of (some i)).start 0 (not_zero i)

    go : (s a : Bool) → eqb x.start 0 ≡ a → taken (pick (s && eqb x.start 0) (spot_of (some i)) x) (keyed k is) ≡ taken x (pick s (some i) (keyed k is))
    go false a e = refl
    go true true e = rw e (stays (spot_of (some i)) (keyed k is) behind)
    go true false e = rw e (stays x (keyed k is) e)

-- ---- the walk: what is noted, and what is still to come, is all

-- starts₀, bits₀: as they were lent
pub record Passing (S K starts₀ bits₀ starts bits : List ℕ) (at : ℕ) : Type 0 where
  pub inside : at ≤ length S
  pub stop : (cut_from (drop at S) at).stop ≡ (cut_of S).stop
  pub rows : length starts ≡ length K
  pub rows_too : length bits ≡ length K
  pub rest : (j : ℕ) → j < length K → taken (spot_at starts bits j) (keyed (get_or K j 0) (cut_from (drop at S) at).items) ≡ row_after K (cut_of S).items starts₀ bits₀ j

pub passing_first : (S K starts bits : List ℕ) → length starts ≡ length K → length bits ≡ length K → Passing S K starts bits starts bits 0
unfolding cut_of
passing_first S K starts bits e f = record { inside = omega arith; stop = refl; rows = e; rows_too = f; rest = λ j h. refl }

-- a list by its rows
by_rows : (f : ℕ → ℕ) (n : ℕ) (l : List ℕ) → length l ≡ n → ((j : ℕ) → j < n → get_or l j 0 ≡ f j) → l ≡ each f n
by_rows f n l e h = ext_get_or 0 l (each f n) (e ∙ sym (each_length f n)) (λ j g. let k : j < n = omega arith in h j k ∙ sym (each_at f n j k))

module _ (S K starts₀ bits₀ starts bits : List ℕ) (at n : ℕ) (w : Passing S K starts₀ bits₀ starts bits at) (size : n ≡ size_at S at) where
  pub passing_done : n ≡ 0 → (at ≡ (cut_of S).stop) × (at ≤ length S) × (starts ≡ starts_after K (cut_of S).items starts₀ bits₀) × (bits ≡ bits_after K (cut_of S).items starts₀ bits₀)
  unfolding no_item keyed starts_after bits_after
  passing_done z =
      let none' = at_none S at n size z in
      let row : (j : ℕ) → j < length K → spot_at starts bits j ≡ row_after K (cut_of S).items starts₀ bits₀ j
      = (λ j h. sym (ap (λ (c : Cut). taken (spot_at starts bits j) (keyed (get_or K j 0) c.items)) none') ∙ w.rest j h) in (
        sym (ap (λ (c : Cut). c.stop) none') ∙ w.stop,
        w.inside,
        by_rows (λ j. (row_after K (cut_of S).items starts₀ bits₀ j).start) (length K) starts w.rows (λ j h. ap (λ (x : Spot). x.start) (row j h)),
        by_rows (λ j. (row_after K (cut_of S).items starts₀ bits₀ j).bits) (length K) bits w.rows_too (λ j h. ap (λ (x : Spot). x.bits) (row j h)),
      )

  module _ (some' : n ≡ 0 → ⊥) (key size' : ℕ) (a : Only key K) (ke : key ≡ number_at 4 S at) (be : size' ≡ number_at 4 S (at + 4)) where
    abbrev i : Item
    i = item_at (drop at S) at

    here : ◌≡◌ {A = Spot} (record { start = at + 8; bits = size' }) (spot_of (some i))
    unfolding spot_of item_at
    here = ap (λ (k : ℕ). record { start = at + 8; bits = k }) (be ∙ sym (bits_later S at n size some'))

    named : key ≡ big_of i.name
    unfolding item_at
    named = name_number S at n key size some' ke

    one : (k : ℕ) (x : Spot) → taken (noted x (eqb k key) (record { start = at + 8; bits = size' })) (keyed k (cut_from (drop (at + n) S) (at + n)).items) ≡ taken x (keyed k (cut_from (drop at S) at).items)
    unfolding item_then
    one k x =
        ap₂ (λ (b : ℕ) (y : Spot). taken (noted x (eqb k b) y) (keyed k (cut_from (drop (at + n) S) (at + n)).items)) named here
        ∙ taken_more k x i (cut_from (drop (at + n) S) (at + n)).items
        ∙ sym (ap (λ (c : Cut). taken x (keyed k c.items)) (at_item S at n size some'))

    pub passing_more : (starts' bits' : List ℕ) → starts' ≡ noted_at (row_of key K) (at + 8) starts starts → bits' ≡ noted_at (row_of key K) size' starts bits → Passing S K starts₀ bits₀ starts' bits' (at + n)
    unfolding item_then
    passing_more starts' bits' e f = record {
      inside = (at_fits S at n size some').1;
      stop = sym (ap (λ (c : Cut). c.stop) (at_item S at n size some')) ∙ w.stop;
      rows = ap length e ∙ noted_length K key (at + 8) size' starts bits a w.rows w.rows_too (at + 8) starts ∙ w.rows;
      rows_too = ap length f ∙ noted_length K key (at + 8) size' starts bits a w.rows w.rows_too size' bits ∙ w.rows_too;
      rest = λ j h.
          ap₂ (λ (u v : List ℕ). taken (spot_at u v j) (keyed (get_or K j 0) (cut_from (drop (at + n) S) (at + n)).items)) e f
          ∙ ap (λ (x : Spot). taken x (keyed (get_or K j 0) (cut_from (drop (at + n) S) (at + n)).items)) (noted_row K key (at + 8) size' starts bits a w.rows w.rows_too j h)
          ∙ one (get_or K j 0) (spot_at starts bits j)
          ∙ w.rest j h;
    }
