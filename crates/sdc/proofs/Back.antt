-- The block to the bytes of its value and back, both ways. Assumes nothing.
use Prim.Native.Nat.{ℕ, zero, suc, ◌+◌, ◌-◌, ◌%◌, ◌^◌, ◌≤◌, ◌<◌}
use mathlib.Core.Bool.{Bool, true, false, not, ◌&&◌, ◌||◌}
use Rattle.std.specs.Prelude.{Option, None, Some}
use mathlib.Core.Logic.{◌⊎◌, inl, inr}
use mathlib.Core.Path.{◌≡◌, refl, sym, ap, ap₂, ◌∙◌}
use mathlib.Core.List.{List, [], ◌∷◌, ◌++◌}
use native.Mathlib.Nat.{mod-eq_of_lt}
use native.Mathlib.Omega.{arith}
use borrow.Author.Tests.{lt-ltb, le-ltb, le-leb, eq-eqb, ne_eqb, ltb-false, ltb-true, eqb-true, not-false}
use lib.Dec.{ltb, leb, eqb}
use lib.ListN.{length, get_or, take, drop, replicate, length-append, length-drop, length-replicate, take-append-drop}
use lib.Seq.{take_at, drop_at, take_all, length-take-le, take-add}
use Rattle.laws.specs.Big.{Bytes, bytes_of, big_of, number_at}
use Rattle.laws.specs.Pick.{pick}
use Rattle.laws.proofs.Big.{big_back, bytes_back, bytes_length, bytes_drop}
use Rattle.laws.proofs.Flags.{and_l, and_r, or_false}
use Rattle.fields.proofs.Reading.{number_in}
use Rattle.crc.specs.Crc.{crc_of}
use Rattle.sdc.specs.declared.Head.{Head}
use Rattle.sdc.specs.declared.Sdc.{Sdc}
use Rattle.sdc.specs.Block.{most, capped, padded, no_sdc, data_in, sdc_of, sealed, sealed16, block_bytes, sdc_bytes, size_of, afs_of, over_long, blank, is_too_large}
use Rattle.sdc.proofs.Ways.{data_length}
use Rattle.sdc.proofs.Writing.{sealed_length}

-- ---- zeros
pub blank_is : (s : List ℕ) → blank s ≡ true → s ≡ replicate (length s) 0
unfolding blank
blank_is [] e = refl
blank_is (x ∷ s) e =
    let h : x ≡ 0 = eqb-true _ _ (and_l (eqb x 0) (blank s) e) in
    ap₂ (λ (y : ℕ) (t : List ℕ). y ∷ t) h (blank_is s (and_r (eqb x 0) (blank s) e))

pub zeros_blank : (n : ℕ) → blank (replicate n 0) ≡ true
unfolding blank
zeros_blank zero = refl
zeros_blank (suc n) = zeros_blank n

-- a block that may be handed in: its array is whole, its data fits, its index fits, zeros stand behind
pub record Whole (s : Sdc) : Type 0 where
  pub body : length s.body ≡ 1024
  pub long : over_long s ≡ false
  pub large : is_too_large s ≡ false

crc_fits : (s : List ℕ) → crc_of 16 0x1021 s < 2 ^ 16
unfolding crc_of
crc_fits s = omega arith

-- ---- bytes with their check word
module _ (s : List ℕ) where
  pub check_back : number_at 2 (sealed16 s) (length s) ≡ crc_of 16 0x1021 s
  unfolding sealed16
  check_back =
      let l : length (sealed16 s) ≡ length s + 2 = sealed_length s in
      let k : length (bytes_of 2 (crc_of 16 0x1021 s)) ≡ 2 = bytes_length 2 (crc_of 16 0x1021 s) in
      number_in 2 (sealed16 s) (length s) (omega arith)
      ∙ ap (λ (t : List ℕ). big_of (take 2 t)) (drop_at s (bytes_of 2 (crc_of 16 0x1021 s)) (length s) refl)
      ∙ ap big_of (take_all 2 (bytes_of 2 (crc_of 16 0x1021 s)) (omega arith))
      ∙ big_back 2 (crc_of 16 0x1021 s) (crc_fits s)

  pub plain_back : take (length s) (sealed16 s) ≡ s
  unfolding sealed16
  plain_back = take_at s (bytes_of 2 (crc_of 16 0x1021 s)) (length s) refl

  -- and any bytes that have it
  pub sealed_forth : (v : List ℕ) → Bytes v → length v ≡ length s + 2 → take (length s) v ≡ s → number_at 2 v (length s) ≡ crc_of 16 0x1021 s → sealed16 s ≡ v
  unfolding sealed16
  sealed_forth v b l t n =
      let r : List ℕ = drop (length s) v in
      let lr : length r ≡ 2 = length-drop (length s) v ∙ omega arith in
      let x : crc_of 16 0x1021 s ≡ big_of r = sym n ∙ number_in 2 v (length s) (omega arith) ∙ ap big_of (take_all 2 r (omega arith)) in
      let q : bytes_of 2 (crc_of 16 0x1021 s) ≡ r = ap (bytes_of 2) x ∙ rw lr at (bytes_back r (bytes_drop (length s) v b)) in
      ap₂ (λ (y z : List ℕ). y ++ z) (sym t) q ∙ take-append-drop (length s) v

-- ---- a block is its value
module _ (afs size : ℕ) (body : List ℕ) (l : length body ≡ 1024) (m : size ≤ 1024) where
  given_plain : length (take size body) ≡ size
  given_plain = length-take-le size body (omega arith)

  pub given_length : length (sealed16 (afs ∷ take size body)) ≡ size + 3
  given_length = let k = given_plain in sealed_length (afs ∷ take size body) ∙ omega arith

  given_cap : capped (length (sealed16 (afs ∷ take size body)) - 3) ≡ size
  given_cap =
      let e : length (sealed16 (afs ∷ take size body)) - 3 ≡ size = (let k = given_length in omega arith) in
      rw (e, le-ltb _ _ m) refl

  given_data : data_in (sealed16 (afs ∷ take size body)) ≡ take size body
  unfolding data_in sealed16
  given_data =
      ap (λ (n : ℕ). take n (take size body ++ bytes_of 2 (crc_of 16 0x1021 (afs ∷ take size body)))) given_cap
      ∙ take_at (take size body) (bytes_of 2 (crc_of 16 0x1021 (afs ∷ take size body))) size given_plain

  given_body : blank (drop size body) ≡ true → padded (take size body) ≡ body
  unfolding padded
  given_body z =
      let e : length (drop size body) ≡ most - length (take size body) = length-drop size body ∙ (let k = given_plain in omega arith) in
      ap (λ (t : List ℕ). take size body ++ t) (sym (blank_is (drop size body) z ∙ ap (λ (n : ℕ). replicate {A = ℕ} n 0) e)) ∙ take-append-drop size body

  first : afs ≤ 15 → get_or (sealed16 (afs ∷ take size body)) 0 0 % 16 ≡ afs
  unfolding sealed16
  first a = mod-eq_of_lt (omega arith)

  filled : length (sealed16 (afs ∷ take size body)) ≡ 0 → ⊥
  filled e = let k = given_length in omega arith

  given_back : afs ≤ 15 → blank (drop size body) ≡ true → sdc_of (sealed16 (afs ∷ take size body)) ≡ record { head = Some (record { afs = afs; size = size }); body = body }
  unfolding sdc_of
  given_back a z =
      rw (ne_eqb _ _ filled)
      (ap₂ (λ (p q : ℕ). record { head = Some (record { afs = p; size = q }); body = padded (data_in (sealed16 (afs ∷ take size body))) }) (first a) given_cap
      ∙ ap (λ (t : List ℕ). record { head = Some (record { afs = afs; size = size }); body = t }) (ap padded given_data ∙ given_body z))

  small : afs ≤ 15 → ltb (get_or (sealed16 (afs ∷ take size body)) 0 0) 16 ≡ true
  unfolding sealed16
  small a = let h : afs < 16 = omega arith in lt-ltb _ _ h

  given_sealed : afs ≤ 15 → sealed (sealed16 (afs ∷ take size body)) ≡ true
  unfolding sealed
  given_sealed a =
      let s : List ℕ = afs ∷ take size body in
      let g : length (sealed16 s) ≡ size + 3 = given_length in
      let h : 3 ≤ length (sealed16 s) = omega arith in
      let k : length (sealed16 s) - 2 ≡ length s = (let p = given_plain in omega arith) in
      let e : number_at 2 (sealed16 s) (length (sealed16 s) - 2) ≡ crc_of 16 0x1021 (take (length (sealed16 s) - 2) (sealed16 s)) =
      ap (number_at 2 (sealed16 s)) k ∙ check_back s ∙ ap (crc_of 16 0x1021) (sym (ap (λ (n : ℕ). take n (sealed16 s)) k ∙ plain_back s)) in
      rw (ne_eqb _ _ filled, le-leb _ _ h, small a) (eq-eqb _ _ e)

none_back : (body : List ℕ) → length body ≡ 1024 → blank body ≡ true → sdc_of [] ≡ record { head = None; body = body }
unfolding sdc_of
none_back body l z = ap (λ (t : List ℕ). record { head = None; body = t }) (sym (blank_is body z ∙ ap (λ (n : ℕ). replicate {A = ℕ} n 0) l))

-- by the head
back_for : (h : Option Head) (body : List ℕ) → length body ≡ 1024 → ltb most (size_of h) ≡ false → (ltb 15 (afs_of h) || not (blank (drop (size_of h) body))) ≡ false
    → sdc_of (block_bytes h body) ≡ record { head = h; body = body }
unfolding block_bytes size_of afs_of
back_for None body l o t = none_back body l (not-false _ t)
back_for (Some h) body l o t =
    let p = or_false (ltb 15 h.afs) (not (blank (drop h.size body))) t in
    given_back h.afs h.size body l (ltb-false _ _ o) (ltb-false _ _ p.0) (not-false _ p.1)

sealed_for : (h : Option Head) (body : List ℕ) → length body ≡ 1024 → ltb most (size_of h) ≡ false → (ltb 15 (afs_of h) || not (blank (drop (size_of h) body))) ≡ false
    → sealed (block_bytes h body) ≡ true
unfolding block_bytes size_of afs_of sealed
sealed_for None body l o t = refl
sealed_for (Some h) body l o t =
    let p = or_false (ltb 15 h.afs) (not (blank (drop h.size body))) t in
    given_sealed h.afs h.size body l (ltb-false _ _ o) (ltb-false _ _ p.0)

-- 0 or 3 to 1,027 bytes
length_for : (h : Option Head) (body : List ℕ) → length body ≡ 1024 → ltb most (size_of h) ≡ false
    → (length (block_bytes h body) ≡ 0) ⊎ ((3 ≤ length (block_bytes h body)) × (length (block_bytes h body) ≤ 1027))
unfolding block_bytes size_of
length_for None body l o = inl refl
length_for (Some h) body l o =
    let m : h.size ≤ 1024 = ltb-false _ _ o in
    let g = given_length h.afs h.size body l m in
    inr (omega arith, omega arith)

-- ---- read, what was written
module _ (s : Sdc) (w : Whole s) where
  pub sdc_back : sdc_of (sdc_bytes s) ≡ s
  unfolding sdc_bytes over_long is_too_large
  sdc_back = back_for s.head s.body w.body w.long w.large

  pub sealed_back : sealed (sdc_bytes s) ≡ true
  unfolding sdc_bytes over_long is_too_large
  sealed_back = sealed_for s.head s.body w.body w.long w.large

  pub value_size_law : (length (sdc_bytes s) ≡ 0) ⊎ ((3 ≤ length (sdc_bytes s)) × (length (sdc_bytes s) ≤ 1027))
  unfolding sdc_bytes over_long
  value_size_law = length_for s.head s.body w.body w.long

-- ---- what was read may be handed in
capped_most : (n : ℕ) → capped n ≤ 1024
capped_most n = go (ltb most n) refl
  where
    go : (b : Bool) → ltb most n ≡ b → pick b most n ≤ 1024
    go true e = omega arith
    go false e = ltb-false _ _ e

padded_length : (d : List ℕ) → length d ≤ 1024 → length (padded d) ≡ 1024
unfolding padded
padded_length d h =
    length-append d (replicate {A = ℕ} (most - length d) 0) ∙ (let k = length-replicate {A = ℕ} (most - length d) 0 in omega arith)

padded_blank : (d : List ℕ) (n : ℕ) → length d ≡ n → blank (drop n (padded d)) ≡ true
unfolding padded
padded_blank d n l = ap blank (drop_at d (replicate {A = ℕ} (most - length d) 0) n l) ∙ zeros_blank (most - length d)

given_whole : (v : List ℕ) → Whole (record { head = Some (record { afs = get_or v 0 0 % 16; size = capped (length v - 3) }); body = padded (data_in v) })
unfolding over_long is_too_large size_of afs_of
given_whole v =
    let n = capped (length v - 3) in
    let m : n ≤ 1024 = capped_most (length v - 3) in
    let l : length (data_in v) ≡ n = data_length v in
    let a : get_or v 0 0 % 16 ≤ 15 = omega arith in
    record {
      body = padded_length (data_in v) (omega arith);
      long = le-ltb _ _ m;
      large = simp (le-ltb _ _ a, padded_blank (data_in v) n l);
    }

none_whole : Whole no_sdc
unfolding over_long is_too_large size_of afs_of
none_whole = record { body = length-replicate {A = ℕ} 1024 0; long = refl; large = simp (zeros_blank 1024) }

pub read_whole : (v : List ℕ) → Whole (sdc_of v)
unfolding sdc_of
read_whole v = go (eqb (length v) 0)
  where
    go : (b : Bool) → Whole (pick b no_sdc (record { head = Some (record { afs = get_or v 0 0 % 16; size = capped (length v - 3) }); body = padded (data_in v) }))
    go true = none_whole
    go false = given_whole v

-- ---- written, what was read: the same bytes
nothing : (v : List ℕ) → length v ≡ 0 → v ≡ []
nothing [] e = refl
nothing (x ∷ v) e = absurd (omega arith)

none_forth : (v : List ℕ) → length v ≡ 0 → sdc_bytes (sdc_of v) ≡ v
unfolding sdc_bytes block_bytes sdc_of
none_forth v e = rw (nothing v e) refl

module _ (v : List ℕ) (b : Bytes v) (l : 3 ≤ length v) (m : length v ≤ 1027) where
  size_is : capped (length v - 3) ≡ length v - 3
  size_is = let h : length v - 3 ≤ 1024 = omega arith in rw (le-ltb _ _ h) refl

  data_is : take (capped (length v - 3)) (padded (data_in v)) ≡ take (length v - 3) (drop 1 v)
  unfolding padded data_in
  data_is = take_at (data_in v) (replicate {A = ℕ} (most - length (data_in v)) 0) (capped (length v - 3)) (data_length v) ∙ ap (λ (k : ℕ). take k (drop 1 v)) size_is

  plain_is : get_or v 0 0 < 16 → get_or v 0 0 % 16 ∷ take (capped (length v - 3)) (padded (data_in v)) ≡ take (length v - 2) v
  plain_is h =
      let k : 1 + (length v - 3) ≡ length v - 2 = omega arith in
      ap₂ (λ (x : ℕ) (t : List ℕ). x ∷ t) (mod-eq_of_lt h) data_is
      ∙ ap (λ (t : List ℕ). t ++ take (length v - 3) (drop 1 v)) (sym (first_one v (omega arith)))
      ∙ sym (take-add 1 (length v - 3) v)
      ∙ ap (λ (j : ℕ). take j v) k
    where
      first_one : (w : List ℕ) → 1 ≤ length w → take 1 w ≡ get_or w 0 0 ∷ []
      first_one [] h = absurd (omega arith)
      first_one (x ∷ w) h = refl

  some_forth : sealed v ≡ true → sdc_bytes (sdc_of v) ≡ v
  unfolding sdc_bytes block_bytes sdc_of sealed
  some_forth e =
      let z : length v ≡ 0 → ⊥ = λ q. omega arith in
      let e2 : (leb 3 (length v) && (ltb (get_or v 0 0) 16 && eqb (number_at 2 v (length v - 2)) (crc_of 16 0x1021 (take (length v - 2) v)))) ≡ true =
      rw (ne_eqb _ _ z) at e in
      let f = and_r (leb 3 (length v)) _ e2 in
      let a : get_or v 0 0 < 16 = ltb-true _ _ (and_l (ltb (get_or v 0 0) 16) _ f) in
      let c : number_at 2 v (length v - 2) ≡ crc_of 16 0x1021 (take (length v - 2) v) = eqb-true _ _ (and_r (ltb (get_or v 0 0) 16) _ f) in
      let s : List ℕ = take (length v - 2) v in
      let ls : length s ≡ length v - 2 = length-take-le (length v - 2) v (omega arith) in
      rw (ne_eqb _ _ z)
      (ap sealed16 (plain_is a) ∙ sealed_forth s v b (omega arith) (ap (λ (k : ℕ). take k v) ls) (ap (number_at 2 v) ls ∙ c))

pub value_back : (v : List ℕ) → Bytes v → (length v ≡ 0) ⊎ ((3 ≤ length v) × (length v ≤ 1027)) → sealed v ≡ true → sdc_bytes (sdc_of v) ≡ v
value_back v b (inl h) e = none_forth v h
value_back v b (inr h) e = some_forth v b h.0 h.1 e
