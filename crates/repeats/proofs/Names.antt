-- The names that came so far, as stored keys, and what the pass over the items knows at an offset. Assumes nothing.
use Prim.Native.Nat.{ℕ, zero, suc, ◌+◌, ◌*◌, ◌-◌, ◌≤◌, ◌<◌}
use mathlib.Core.Path.{◌≡◌, refl, sym, ap, ap₂, ◌∙◌}
use mathlib.Core.Bool.{Bool, true, false, ◌||◌, true≢false}
use mathlib.Core.List.{List, [], ◌∷◌, ◌++◌}
use mathlib.Core.Logic.{inl}
use native.Mathlib.Omega.{arith}
use borrow.Author.Tests.{le-ltb, lt-ltb, ltb-true, ltb-false}
use lib.Dec.{ltb}
use lib.ListN.{length, get_or, take, drop, replicate, length-append, length-replicate, length-drop, get_or-append}
use lib.Seq.{get_or-take, get_or-append_seam, length-take-le}
use Rattle.laws.specs.Pick.{pick}
use Rattle.laws.specs.Big.{big_of, number_at, Bytes}
use Rattle.laws.proofs.Big.{bytes_take, bytes_drop}
use Rattle.laws.proofs.Flags.{or_true}
use Rattle.items.specs.Items.{Cut, none, some, item_at, no_item, item_then, cut_from, cut_of, size_at, same_name, among, again, twice, is_there, place_of}
use Rattle.items.proofs.Rule.{at_none, at_item, at_fits}
use Rattle.items.proofs.Names.{same_list, list_same, number_same}
use Rattle.items.proofs.Passes.{name_number}
use Rattle.repeats.specs.Tree.{Tree, Member, Stored, Zeros, Looked}
use Rattle.repeats.specs.Repeats.{repeat_in, repeat_of, repeat_for}
use Rattle.std.specs.Prelude.{Option, Some, None}
use Rattle.std.specs.Option.{option_flatten}

-- the keys of names; the last that came is the first of the list, and its key the last stored
abbrev keys_of : List (List ℕ) → List ℕ
keys_of [] = []
keys_of (m ∷ ms) = keys_of ms ++ (big_of m ∷ [])

keys_length : (ms : List (List ℕ)) → length (keys_of ms) ≡ length ms
keys_length [] = refl
keys_length (m ∷ ms) = let e = keys_length ms in length-append (keys_of ms) (big_of m ∷ []) ∙ omega arith

-- four bytes
pub record Named (m : List ℕ) : Type 0 where
  pub four : length m ≡ 4
  pub bytes : Bytes m

abbrev AllNamed : List (List ℕ) → Type 0
AllNamed [] = Unit {0}
AllNamed (m ∷ ms) = Named m × AllNamed ms

-- a key that is stored is that of a name that came, and the other way
key_name : (N : List ℕ) → Named N → (ms : List (List ℕ)) → AllNamed ms → (j : ℕ) → j < length ms → get_or (keys_of ms) j 0 ≡ big_of N → among N ms ≡ true
unfolding among
key_name N nn [] a j h e = absurd (omega arith)
key_name N nn (m ∷ ms) a j h e = go (ltb j (length ms)) refl (key_name N nn ms a.1 j)
  where
    go : (b : Bool) → ltb j (length ms) ≡ b → (j < length ms → get_or (keys_of ms) j 0 ≡ big_of N → among N ms ≡ true) → (same_name N m || among N ms) ≡ true
    go true t ih =
        let l : j < length ms = ltb-true j (length ms) t in
        let k = keys_length ms in
        let g : get_or (keys_of ms) j 0 ≡ big_of N = sym (get_or-append (keys_of ms) (big_of m ∷ []) 0 j (omega arith)) ∙ e in
        rw (ih l g) (or_true (same_name N m))
    go false t ih =
        let l : length ms ≤ j = ltb-false j (length ms) t in
        let k = keys_length ms in
        let q : j ≡ length (keys_of ms) = omega arith in
        let g : big_of m ≡ big_of N = sym (get_or-append_seam (keys_of ms) (big_of m) [] 0) ∙ ap (λ (x : ℕ). get_or (keys_of ms ++ (big_of m ∷ [])) x 0) (sym q) ∙ e in
        rw (list_same N m (number_same N m nn.bytes a.0.bytes (nn.four ∙ sym a.0.four) (sym g))) refl

record Key (N : List ℕ) (ms : List (List ℕ)) : Type 0 where
  index : ℕ
  low : index < length ms
  same : get_or (keys_of ms) index 0 ≡ big_of N

name_key : (N : List ℕ) (ms : List (List ℕ)) → among N ms ≡ true → Key N ms
unfolding among
name_key N [] e = absurd (true≢false (sym e))
name_key N (m ∷ ms) e = go (same_name N m) refl e (name_key N ms)
  where
    go : (b : Bool) → same_name N m ≡ b → (b || among N ms) ≡ true → (among N ms ≡ true → Key N ms) → Key N (m ∷ ms)
    go true t e ih =
        let k = keys_length ms in
        record {
          index = length (keys_of ms);
          low = omega arith;
          same = get_or-append_seam (keys_of ms) (big_of m) [] 0 ∙ ap big_of (sym (same_list N m t));
        }
    go false t e ih =
        let r = ih e in
        let l = r.low in
        let k = keys_length ms in
        record { index = r.index; low = omega arith; same = get_or-append (keys_of ms) (big_of m ∷ []) 0 r.index (omega arith) ∙ r.same }

-- ---- what the pass knows at an offset

pub record Seeing (S keys kids : List ℕ) (room n at : ℕ) : Type 0 where
  pub came : List (List ℕ)
  pub inside : at ≤ length S
  pub count : length came ≡ n
  pub few : 8 * n ≤ at
  pub fits : n ≤ room
  pub keys_long : length keys ≡ room
  pub kids_long : 2 * room ≤ length kids
  pub tree : Tree keys kids n
  pub named : AllNamed came
  pub stored : take n keys ≡ keys_of came
  pub still : again came (cut_from (drop at S) at).items ≡ twice (cut_of S).items

pub seeing_none : (S keys kids : List ℕ) → 2 * length keys ≤ length kids → Zeros kids → Seeing S keys kids (length keys) 0 0
unfolding cut_of twice
seeing_none S keys kids l z = record {
  came = [];
  inside = omega arith;
  count = refl;
  few = omega arith;
  fits = omega arith;
  keys_long = refl;
  kids_long = l;
  tree = record { order = λ k. inl (z k); reach = λ j b. absurd (omega arith) };
  named = tt;
  stored = refl;
  still = refl;
}

module _ (S : List ℕ) (bytes : Bytes S) (keys kids : List ℕ) (room n at k : ℕ) (s : Seeing S keys kids room n at) (size : k ≡ size_at S at) where
  pub seen_all : k ≡ 0 → Looked S room (Some None)
  unfolding repeat_of is_there place_of no_item again
  seen_all z =
      let e : none ≡ twice (cut_of S).items = sym (ap (λ (c : Cut). again s.came c.items) (at_none S at k size z)) ∙ s.still in
      ap repeat_of e

  -- no room is left
  pub seen_full : (k ≡ 0 → ⊥) → n ≡ length keys → Looked S room None
  seen_full some' e =
      let f = at_fits S at k size some' in
      let a = f.0 in
      let b = f.1 in
      let c = s.few in
      let d = s.keys_long in
      omega arith

  pub nearer : (k ≡ 0 → ⊥) → length S - (at + k) < length S - at
  nearer some' =
      let f = at_fits S at k size some' in
      let a = f.0 in
      let b = f.1 in
      omega arith

  module _ (some' : k ≡ 0 → ⊥) (key : ℕ) (word : key ≡ number_at 4 S at) where
    N : List ℕ
    N = take 4 (drop at S)

    N-named : Named N
    unfolding N
    N-named =
        let f = at_fits S at k size some' in
        let a = f.0 in
        let b = f.1 in
        record { four = length-take-le 4 (drop at S) (omega (arith, length-drop at S)); bytes = bytes_take 4 (drop at S) (bytes_drop at S bytes) }

    key_is : key ≡ big_of N
    unfolding N
    key_is = name_number S at k key size some' word

    next_is : (b : Bool) → among N s.came ≡ b
        → pick b (some (item_at (drop at S) at)) (again (N ∷ s.came) (cut_from (drop (at + k) S) (at + k)).items) ≡ twice (cut_of S).items
    unfolding N item_then item_at again
    next_is b e =
        let r = ap (λ (c : Cut). again s.came c.items) (at_item S at k size some') in
        ap (λ (t : Bool). pick t (some (item_at (drop at S) at)) (again (N ∷ s.came) (cut_from (drop (at + k) S) (at + k)).items)) (sym e) ∙ sym r ∙ s.still

    pub can_insert : room ≤ 8192 → (n ≡ length keys → ⊥) → (n < length keys) × (n < 8192) × (2 * n + 2 ≤ length kids) × Tree keys kids n
    can_insert r free =
        let l = s.fits in
        let a = s.keys_long in
        let b = s.kids_long in
        (omega (arith, free), omega (arith, free), omega (arith, free), s.tree)

    module _ (b : Bool) (keys' kids' : List ℕ) (did : Stored keys kids n key b keys' kids') where
      was_there : Member keys n key → among N s.came ≡ true
      was_there m =
          let c = s.count in
          let l = m.low in
          let e : get_or (keys_of s.came) m.index 0 ≡ key = ap (λ (x : List ℕ). get_or x m.index 0) (sym s.stored) ∙ get_or-take n keys m.index 0 l ∙ m.same in
          key_name N N-named s.came s.named m.index (omega arith) (e ∙ key_is)

      was_not : (Member keys n key → ⊥) → among N s.came ≡ false
      was_not no_member = go (among N s.came) refl
        where
          go : (t : Bool) → among N s.came ≡ t → t ≡ false
          go false e = refl
          go true e =
              let r = name_key N s.came e in
              let l = r.low in
              let c = s.count in
              let h : r.index < n = omega arith in
              absurd (no_member (record {
                index = r.index;
                low = h;
                same = sym (get_or-take n keys r.index 0 h) ∙ ap (λ (x : List ℕ). get_or x r.index 0) s.stored ∙ r.same ∙ sym key_is;
              }))

      pub seen_again : b ≡ true → Looked S room (Some (Some at))
      unfolding repeat_of is_there place_of item_at
      seen_again t = ap repeat_of (next_is true (was_there (did.was t).0))

      pub seeing_more : b ≡ false → (n ≡ length keys → ⊥) → length keys' ≡ length keys → length kids' ≡ length kids → Seeing S keys' kids' room (n + 1) (at + k)
      seeing_more t free l m =
          let f = at_fits S at k size some' in
          let a0 = f.0 in
          let a1 = f.1 in
          let c = s.count in
          let r = s.few in
          let g = s.fits in
          let h = s.keys_long in
          let q = s.kids_long in
          record {
            came = N ∷ s.came;
            inside = omega arith;
            count = omega arith;
            few = omega arith;
            fits = omega (arith, free);
            keys_long = l ∙ s.keys_long;
            kids_long = omega arith;
            tree = (did.new t).1;
            named = (N-named, s.named);
            stored = (did.new t).2 ∙ ap₂ (λ (x : List ℕ) (y : ℕ). x ++ (y ∷ [])) s.stored key_is;
            still = next_is false (was_not (did.new t).0);
          }

-- ---- the arrays

zeros : (n k : ℕ) → get_or (replicate {A = ℕ} n 0) k 0 ≡ 0
zeros zero k = refl
zeros (suc n) zero = refl
zeros (suc n) (suc k) = zeros n k

-- ---- `first_again`

pub repeat_long : (S : List ℕ) → 65528 < length S → repeat_in None ≡ repeat_for S
unfolding repeat_for repeat_of is_there place_of
repeat_long S h = rw (lt-ltb 65528 (length S) h) refl

pub repeat_short : (S : List ℕ) (r : Option ℕ) → length S ≤ 65528 → repeat_in r ≡ repeat_of (twice (cut_of S).items) → repeat_in r ≡ repeat_for S
unfolding repeat_for
repeat_short S r h e = rw (le-ltb 65528 (length S) h) e

-- 8,192 items have more bytes than a packet
pub never_full : (S : List ℕ) (r : Option (Option ℕ)) → length S ≤ 65528 → Looked S 8192 r → repeat_in (option_flatten r) ≡ repeat_of (twice (cut_of S).items)
never_full S None h k = absurd (omega arith)
never_full S (Some r) h k = k

-- arrays of n and m zeros have room for n names
pub arrays_fit : (n m : ℕ) → n ≤ 8192 → 2 * n ≤ m
    → (length (replicate {A = ℕ} n 0) ≤ 8192)
    × (2 * length (replicate {A = ℕ} n 0) ≤ length (replicate {A = ℕ} m 0)) × Zeros (replicate m 0)
arrays_fit n m l k =
    rw (length-replicate {A = ℕ} n 0, length-replicate {A = ℕ} m 0) (l, k, zeros m)
