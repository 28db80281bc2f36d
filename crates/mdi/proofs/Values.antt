-- The tests on the values that the spots show are the conditions on the items. Assumes nothing.
use Prim.Native.Nat.{ℕ, zero, suc, ◌+◌, ◌≤◌, ◌<◌}
use mathlib.Core.Path.{◌≡◌, refl, sym, ap, ap₂, ◌∙◌}
use mathlib.Core.Bool.{Bool, true, false, ◌&&◌, ◌||◌, not}
use mathlib.Core.List.{List}
use native.Mathlib.Omega.{arith}
use lib.Dec.{leb, eqb, lit<}
use lib.ListN.{length, take}
use lib.Seq.{length-take-le, take_all}
use Rattle.laws.specs.Pick.{pick}
use Rattle.laws.specs.Big.{big_of, number_at, Bytes}
use Rattle.laws.proofs.Big.{bytes_take}
use Rattle.clock.specs.Stamps.{decoded_for}
use Rattle.clock.specs.Answers.{Stamped, stamped_in}
use Rattle.clock.specs.declared.Stamp.{Stamp}
use Rattle.clock.specs.contracts.StampPartialEq.TheImpl as stamps
use Rattle.clock.proofs.Told.{six_of}
use Rattle.refusal.specs.contracts.RefusalPartialEq.TheImpl as refusals
use Rattle.refusal.specs.declared.Refusal.{Refusal}
use Rattle.refusal.specs.declared.Refusal.TheVariants.{BadValue}
use Rattle.std.specs.Prelude.{Result, Err}
use Rattle.std.specs.Result.{result_eq}
use Rattle.description.specs.Bytes.{said_of, described_by}
use Rattle.description.specs.WellFormed.{ill_formed}
use Rattle.description.specs.declared.Description.{Description}
use Rattle.fac.specs.Channel as fast
use Rattle.fac.specs.Channel.{fac_of, not_served}
use Rattle.fac.specs.declared.Fac.{Fac}
use Rattle.sdc.specs.Block as block
use Rattle.items.specs.Items.{Item, cut_of, find, spot_of, value_of, shown_at, bytes_for, same_name}
use Rattle.items.specs.declared.Spot.{Spot}
use Rattle.items.proofs.Stands.{value_is}
use Rattle.items.proofs.Names.{same_number, same_no}
use Rattle.mdi_spots.specs.Names.{letters, ptr, fac, sdc, sdci, robm, tist}
use Rattle.mdi_spots.specs.Table.{table, ill, name_of}
use Rattle.mdi_spots.specs.Spotted.{spots_of, spot_in, away}
use Rattle.mdi_spots.specs.declared.Spots.{Spots}
use Rattle.mdi_spots.proofs.Items.{ill_is, size_is, spot_of_law}
use Rattle.mdi.specs.Conditions.{protocol, known_mode, on_time, bad_value, bad_fac, bad_sdc, served, unserved, msc_mode, bad_description, given, agrees, agrees_at, bad_streams}

-- ---- one value

-- the letters, as a number
letters_is : (v : List ℕ) → Bytes v → eqb (number_at 4 v 0) (number_at 4 letters 0) ≡ same_name letters (take 4 v)
unfolding number_at big_of
letters_is v b = go (leb (0 + 4) (length v)) refl
  where
    fit : Bytes letters
    fit zero = omega arith
    fit (suc zero) = omega arith
    fit (suc (suc zero)) = omega arith
    fit (suc (suc (suc zero))) = omega arith
    fit (suc (suc (suc (suc i)))) = omega arith

    go : (t : Bool) → leb (0 + 4) (length v) ≡ t → eqb (pick t (big_of (take 4 v)) 0) (big_of letters) ≡ same_name letters (take 4 v)
    go true e =
        let h : 0 + 4 ≤ length v = borrow.Author.Tests.leb-true (0 + 4) (length v) e in
        let l : length (take 4 v) ≡ 4 = length-take-le 4 v (omega arith) in
        same_number letters (take 4 v) fit (bytes_take 4 v b) (sym l)
    go false e =
        let h : length v < 0 + 4 = borrow.Author.Tests.leb-false (0 + 4) (length v) e in
        let l : take 4 v ≡ v = take_all 4 v (omega arith) in
        let n : letters ≡ take 4 v → ⊥ = (λ q. let k : 4 ≡ length v = ap length (q ∙ l) in omega arith) in
        sym (same_no letters (take 4 v) n)

pub protocol_is : (v : List ℕ) (a b c : ℕ) → Bytes v → a ≡ number_at 4 v 0 → b ≡ number_at 4 letters 0 → c ≡ number_at 2 v 4 → (eqb a b && eqb c 0) ≡ protocol v
unfolding protocol
protocol_is v a b c h p q r = rw (p, q, r, letters_is v h) refl

pub time_is : (v : List ℕ) (o : Result Stamp Refusal) → stamped_in o ≡ decoded_for v
    → not (result_eq stamps.eq-value.it refusals.eq-value.it o (Err BadValue)) ≡ on_time v
unfolding on_time
time_is v o e = ap not (six_of o ∙ ap (λ (g : Stamped). eqb g.number 6) e)

two_nots : (b : Bool) → not (not b) ≡ b
two_nots true = refl
two_nots false = refl

-- ---- the values of a packet's spots

module _ (S : List ℕ) where
  abbrev is : List Item
  is = (cut_of S).items

  one : (ok : List ℕ → Bool) (n : List ℕ) (x : Spot) → x ≡ spot_of (find n is) → (a : Bool) (v : List ℕ) (b : Bool)
      → a ≡ not (away x) → v ≡ shown_at S x → b ≡ ok v → (a && not b) ≡ ill ok (find n is)
  one ok n x e a v b p q r = rw (p, r, q, e) (ill_is ok S n)

  one_not : (bad : List ℕ → Bool) (n : List ℕ) (x : Spot) → x ≡ spot_of (find n is) → (a : Bool) (v : List ℕ) (b : Bool)
      → a ≡ not (away x) → v ≡ shown_at S x → b ≡ bad v → (a && b) ≡ ill (λ u. not (bad u)) (find n is)
  one_not bad n x e a v b p q r =
      ap (λ (c : Bool). a && c) (sym (two_nots b)) ∙ one (λ u. not (bad u)) n x e a v (not b) p q (ap not r)

  shown : (n : List ℕ) (x : Spot) → x ≡ spot_of (find n is) → (v : List ℕ) → v ≡ shown_at S x → v ≡ value_of (find n is)
  shown n x e v q = q ∙ ap (shown_at S) e ∙ value_is S n

  sized : (n : List ℕ) (x : Spot) → x ≡ spot_of (find n is) → bytes_for x.bits ≡ given n is
  sized n x e = ap (λ (y : Spot). bytes_for y.bits) e ∙ size_is S n

  module _ (t : Spots) (e : t ≡ spots_of is) where
    pub value_at : (ptr' robm' tist' : Spot) (a b c : Bool) (u v w : List ℕ) (x y z : Bool)
        → ptr' ≡ spot_in t 0 → robm' ≡ spot_in t 5 → tist' ≡ spot_in t 10
        → a ≡ not (away ptr') → u ≡ shown_at S ptr' → x ≡ protocol u
        → b ≡ not (away robm') → v ≡ shown_at S robm' → y ≡ known_mode v
        → c ≡ not (away tist') → w ≡ shown_at S tist' → z ≡ on_time w
        → (a && not x || b && not y || c && not z) ≡ bad_value is
    unfolding bad_value
    value_at ptr' robm' tist' a b c u v w x y z p q r a1 a2 a3 b1 b2 b3 c1 c2 c3 =
        rw (
          one protocol ptr ptr' (spot_of_law is t e 0 (lit< tt) ptr' p) a u x a1 a2 a3,
          one known_mode robm robm' (spot_of_law is t e 5 (lit< tt) robm' q) b v y b1 b2 b3,
          one on_time tist tist' (spot_of_law is t e 10 (lit< tt) tist' r) c w z c1 c2 c3,
        ) refl

    pub fac_at : (x : Spot) (a : Bool) (v : List ℕ) (b : Bool) → x ≡ spot_in t 2 → a ≡ not (away x) → v ≡ shown_at S x → b ≡ fast.sealed v → (a && not b) ≡ bad_fac is
    unfolding bad_fac
    fac_at x a v b y p q r = one fast.sealed fac x (spot_of_law is t e 2 (lit< tt) x y) a v b p q r

    pub sdc_at : (x : Spot) (a : Bool) (v : List ℕ) (b : Bool) → x ≡ spot_in t 3 → a ≡ not (away x) → v ≡ shown_at S x → b ≡ block.sealed v → (a && not b) ≡ bad_sdc is
    unfolding bad_sdc
    sdc_at x a v b y p q r = one block.sealed sdc x (spot_of_law is t e 3 (lit< tt) x y) a v b p q r

    pub served_at : (x : Spot) (a : Bool) (v : List ℕ) (f : Fac) (b : Bool)
        → x ≡ spot_in t 2 → a ≡ not (away x) → v ≡ shown_at S x → f ≡ fac_of v → b ≡ not_served f → (a && b) ≡ unserved is
    unfolding unserved served
    served_at x a v f b y p q r s = one_not (λ u. not_served (fac_of u)) fac x (spot_of_law is t e 2 (lit< tt) x y) a v b p q (s ∙ ap not_served r)

    pub description_at : (x : Spot) (u : List ℕ) (f : Fac) (y : Spot) (v : List ℕ) (d : Description) (a b : Bool)
        → x ≡ spot_in t 2 → u ≡ shown_at S x → f ≡ fac_of u → y ≡ spot_in t 4 → v ≡ shown_at S y → d ≡ described_by v → a ≡ not (away y) → b ≡ ill_formed f.msc d
        → (a && b) ≡ bad_description is
    unfolding bad_description msc_mode
    description_at x u f y v d a b o p q n r s k l =
        let m : f.msc ≡ (fac_of (value_of (find fac is))).msc = ap (λ (g : Fac). g.msc) (q ∙ ap fac_of (shown fac x (spot_of_law is t e 2 (lit< tt) x o) u p)) in
        one_not (λ w. ill_formed (msc_mode is) (described_by w)) sdci y (spot_of_law is t e 4 (lit< tt) y n) a v b k r (l ∙ ap₂ ill_formed m s)

    -- stream k stands in row 6 + k
    stream_size : (k : ℕ) → k < length table → bytes_for (spot_in t k).bits ≡ given (name_of k) is
    stream_size k h = sized (name_of k) (spot_in t k) (spot_of_law is t e k h (spot_in t k) refl)

    pub streams_at : (y : Spot) (v : List ℕ) (d : Description) (a b : Bool)
        → y ≡ spot_in t 4 → v ≡ shown_at S y → d ≡ described_by v → a ≡ not (away y) → b ≡ agrees_at t d → (a && not b) ≡ bad_streams is
    unfolding bad_streams agrees agrees_at
    streams_at y v d a b n p q r k =
        let f : b ≡ agrees is (described_by v)
        = k ∙ rw (stream_size 6 (lit< tt), stream_size 7 (lit< tt), stream_size 8 (lit< tt), stream_size 9 (lit< tt), q) refl in
        one (λ w. agrees is (described_by w)) sdci y (spot_of_law is t e 4 (lit< tt) y n) a v b r p f

pub agree_is : (t : Spots) (d : Description) (x0 x1 x2 x3 : Spot) (b0 b1 b2 b3 : Bool)
    → x0 ≡ spot_in t 6 → x1 ≡ spot_in t 7 → x2 ≡ spot_in t 8 → x3 ≡ spot_in t 9
    → b0 ≡ eqb (bytes_for x0.bits) (said_of d 0) → b1 ≡ eqb (bytes_for x1.bits) (said_of d 1)
    → b2 ≡ eqb (bytes_for x2.bits) (said_of d 2) → b3 ≡ eqb (bytes_for x3.bits) (said_of d 3)
    → (b0 && b1 && b2 && b3) ≡ agrees_at t d
unfolding agrees_at
agree_is t d x0 x1 x2 x3 b0 b1 b2 b3 y0 y1 y2 y3 e0 e1 e2 e3 = rw (e0, e1, e2, e3, y0, y1, y2, y3) refl
