-- What the tests on lengths and values mean. Assumes nothing.
use Prim.Native.Nat.{ℕ, ◌-◌, ◌%◌, ◌≤◌}
use mathlib.Core.Path.{◌≡◌, refl, sym, ap, ◌∙◌}
use mathlib.Core.Bool.{Bool, true, false, ◌&&◌, ◌||◌, not}
use mathlib.Core.List.{List}
use mathlib.Core.Logic.{◌⊎◌, inl, inr}
use native.Mathlib.Omega.{arith}
use borrow.Author.Tests.{eq-eqb, ne_eqb, eqb-true, eqb-false, le-leb, leb-true, lt-ltb, le-ltb, ltb-true, ltb-false}
use lib.Dec.{leb, eqb, ltb}
use lib.ListN.{length, get_or, take}
use Rattle.laws.specs.Big.{number_at}
use Rattle.laws.specs.Limits.{longest}
use Rattle.laws.specs.Pick.{pick}
use Rattle.laws.proofs.Flags.{both, or_false}
use Rattle.clock.specs.Stamps.{stamp_of, late, decode_tests, stamped, decoded_for}
use Rattle.description.specs.Bytes.{described_by}
use Rattle.description.specs.WellFormed as described
use Rattle.description.specs.WellFormed.{ill_formed}
use Rattle.description.proofs.Meaning as meaning
use Rattle.crc.specs.Crc.{crc_of}
use Rattle.fac.specs.Channel as fast
use Rattle.fac.specs.Channel.{fac_of, not_served}
use Rattle.fac.specs.declared.Fac.{Fac}
use Rattle.sdc.specs.Block as block
use Rattle.items.specs.Items.{bytes_for, same_name}
use Rattle.items.proofs.Names.{same_list, list_same}
use Rattle.mdi_spots.specs.Table.{exactly, whole_bytes, sdc_bits, sdci_bits}
use Rattle.mdi_spots.specs.Names.{letters}
use Rattle.mdi.specs.Conditions.{protocol, known_mode, on_time, served}
use Rattle.mdi_laws.specs.WellFormed.{Exactly, WholeBytes, SdcBits, SdciBits, Anything, Protocol, Served, GoodFac, BlockOrNone, Robustness, Milliseconds}
use Rattle.mdi_laws.proofs.Items.{Means, always}

-- ---- lengths

sdc_bits_law : (b : ℕ) → sdc_bits b ≡ true → SdcBits b
sdc_bits_law b e = go (eqb b 0) refl e
  where
    go : (t : Bool) → eqb b 0 ≡ t → (t || (leb 24 b && leb b 8216 && whole_bytes b)) ≡ true → SdcBits b
    go true f e = inl (eqb-true b 0 f)
    go false f e =
        let p = both (leb 24 b && leb b 8216) (whole_bytes b) e in
        let q = both (leb 24 b) (leb b 8216) p.0 in
        inr (leb-true 24 b q.0, leb-true b 8216 q.1, eqb-true (b % 8) 0 p.1)

or_r : (a : Bool) → (a || true) ≡ true
or_r true = refl
or_r false = refl

bits_sdc : (b : ℕ) → SdcBits b → sdc_bits b ≡ true
bits_sdc b (inl z) = rw (eq-eqb b 0 z) refl
bits_sdc b (inr h) = rw (le-leb 24 b h.0, le-leb b 8216 h.1, eq-eqb (b % 8) 0 h.2) (or_r (eqb b 0))

four_or : (a b c d : Bool) → (a || b || c || d) ≡ true → (a ≡ true) ⊎ ((b ≡ true) ⊎ ((c ≡ true) ⊎ (d ≡ true)))
four_or true b c d e = inl refl
four_or false true c d e = inr (inl refl)
four_or false false true d e = inr (inr (inl refl))
four_or false false false d e = inr (inr (inr e))

sdci_bits_law : (b : ℕ) → sdci_bits b ≡ true → SdciBits b
sdci_bits_law b e = go (four_or (eqb b 32) (eqb b 56) (eqb b 80) (eqb b 104) e)
  where
    go : (eqb b 32 ≡ true) ⊎ ((eqb b 56 ≡ true) ⊎ ((eqb b 80 ≡ true) ⊎ (eqb b 104 ≡ true))) → SdciBits b
    go (inl h) = inl (eqb-true b 32 h)
    go (inr (inl h)) = inr (inl (eqb-true b 56 h))
    go (inr (inr (inl h))) = inr (inr (inl (eqb-true b 80 h)))
    go (inr (inr (inr h))) = inr (inr (inr (eqb-true b 104 h)))

bits_sdci : (b : ℕ) → SdciBits b → sdci_bits b ≡ true
bits_sdci b (inl h) = rw h refl
bits_sdci b (inr (inl h)) = rw h refl
bits_sdci b (inr (inr (inl h))) = rw h refl
bits_sdci b (inr (inr (inr h))) = rw h refl

-- ---- values

protocol_is : (v : List ℕ) → protocol v ≡ true → Protocol v
unfolding protocol
protocol_is v e =
    let h = both (same_name letters (take 4 v)) (eqb (number_at 2 v 4) 0) e in
    record { four = sym (same_list letters (take 4 v) h.0); major = eqb-true (number_at 2 v 4) 0 h.1 }

is_protocol : (v : List ℕ) → Protocol v → protocol v ≡ true
unfolding protocol
is_protocol v p = rw (list_same letters (take 4 v) (sym p.four), eq-eqb (number_at 2 v 4) 0 p.major) refl

served_is : (f : Fac) → not_served f ≡ false → Served f
unfolding not_served
served_is f e =
    let a = or_false (eqb f.base 1 || eqb f.rm 1 || (eqb f.occupancy 6 || eqb f.occupancy 7) || (eqb f.msc 1 || eqb f.msc 2)) (eqb f.services 11 || eqb f.services 14) e in
    let b = or_false (eqb f.base 1 || eqb f.rm 1 || (eqb f.occupancy 6 || eqb f.occupancy 7)) (eqb f.msc 1 || eqb f.msc 2) a.0 in
    let c = or_false (eqb f.base 1 || eqb f.rm 1) (eqb f.occupancy 6 || eqb f.occupancy 7) b.0 in
    let d = or_false (eqb f.base 1) (eqb f.rm 1) c.0 in
    let o = or_false (eqb f.occupancy 6) (eqb f.occupancy 7) c.1 in
    let m = or_false (eqb f.msc 1) (eqb f.msc 2) b.1 in
    let s = or_false (eqb f.services 11) (eqb f.services 14) a.1 in
    record {
      base = eqb-false f.base 1 d.0;
      rm = eqb-false f.rm 1 d.1;
      occupancy = (eqb-false f.occupancy 6 o.0, eqb-false f.occupancy 7 o.1);
      msc = (eqb-false f.msc 1 m.0, eqb-false f.msc 2 m.1);
      services = (eqb-false f.services 11 s.0, eqb-false f.services 14 s.1);
    }

is_served : (f : Fac) → Served f → not_served f ≡ false
unfolding not_served
is_served f s =
    rw (
      ne_eqb f.base 1 s.base,
      ne_eqb f.rm 1 s.rm,
      ne_eqb f.occupancy 6 s.occupancy.0,
      ne_eqb f.occupancy 7 s.occupancy.1,
      ne_eqb f.msc 1 s.msc.0,
      ne_eqb f.msc 2 s.msc.1,
      ne_eqb f.services 11 s.services.0,
      ne_eqb f.services 14 s.services.1,
    ) refl

not_yes : (b : Bool) → not b ≡ true → b ≡ false
not_yes true e = sym e
not_yes false e = refl

channel_is : (v : List ℕ) → (fast.sealed v && served v) ≡ true → GoodFac v
unfolding fast.sealed served
channel_is v e =
    let h = both (leb 9 (length v) && eqb (crc_of 8 0x1d (take 8 v)) (get_or v 8 0)) (not (not_served (fac_of v))) e in
    let g = both (leb 9 (length v)) (eqb (crc_of 8 0x1d (take 8 v)) (get_or v 8 0)) h.0 in
    record { check = eqb-true (crc_of 8 0x1d (take 8 v)) (get_or v 8 0) g.1; served = served_is (fac_of v) (not_yes (not_served (fac_of v)) h.1) }

is_channel : (v : List ℕ) → length v ≡ 9 → GoodFac v → (fast.sealed v && served v) ≡ true
unfolding fast.sealed served
is_channel v l c =
    let n : 9 ≤ length v = omega arith in
    rw (le-leb 9 (length v) n, eq-eqb (crc_of 8 0x1d (take 8 v)) (get_or v 8 0) c.check, is_served (fac_of v) c.served) refl

block_is : (v : List ℕ) → block.sealed v ≡ true → BlockOrNone v
unfolding block.sealed
block_is v e = go (eqb (length v) 0) refl e
  where
    go : (t : Bool) → eqb (length v) 0 ≡ t
        → pick t true (leb 3 (length v) && (ltb (get_or v 0 0) 16 && eqb (number_at 2 v (length v - 2)) (crc_of 16 0x1021 (take (length v - 2) v)))) ≡ true → BlockOrNone v
    go true f e = inl (eqb-true (length v) 0 f)
    go false f e =
        let h = both (leb 3 (length v)) (ltb (get_or v 0 0) 16 && eqb (number_at 2 v (length v - 2)) (crc_of 16 0x1021 (take (length v - 2) v))) e in
        let g = both (ltb (get_or v 0 0) 16) (eqb (number_at 2 v (length v - 2)) (crc_of 16 0x1021 (take (length v - 2) v))) h.1 in
        inr (record { zeros = ltb-true (get_or v 0 0) 16 g.0; check = eqb-true _ _ g.1 })

pick_true : (t : Bool) → pick t true true ≡ true
pick_true true = refl
pick_true false = refl

is_block : (v : List ℕ) → (length v ≡ 0) ⊎ (3 ≤ length v) → BlockOrNone v → block.sealed v ≡ true
unfolding block.sealed
is_block v h (inl z) = rw (eq-eqb (length v) 0 z) refl
is_block v (inl z) (inr b) = rw (eq-eqb (length v) 0 z) refl
is_block v (inr l) (inr b) =
    rw (le-leb 3 (length v) l, lt-ltb (get_or v 0 0) 16 b.zeros, eq-eqb (number_at 2 v (length v - 2)) (crc_of 16 0x1021 (take (length v - 2) v)) b.check) (pick_true (eqb (length v) 0))

sdc_length : (b : ℕ) (v : List ℕ) → length v ≡ bytes_for b → SdcBits b → (length v ≡ 0) ⊎ (3 ≤ length v)
sdc_length b v l (inl z) = inl (omega arith)
sdc_length b v l (inr h) = let a = h.0 in inr (omega arith)

-- a value of eight bytes is refused with 6 exactly if it is late
time_is : (v : List ℕ) → length v ≡ 8 → eqb (decoded_for v).number 6 ≡ late v
unfolding decoded_for stamped decode_tests
time_is v l = let n : length v ≤ longest = omega arith in rw (le-ltb longest (length v) n, eq-eqb (length v) 8 l) (go (late v))
  where
    go : (t : Bool) → eqb (pick t 6 0) 6 ≡ t
    go true = refl
    go false = refl

on_time_law : (v : List ℕ) → length v ≡ 8 → on_time v ≡ true → Milliseconds v
unfolding on_time late
on_time_law v l e = ltb-false 999 (stamp_of v).milliseconds (sym (time_is v l) ∙ not_yes (eqb (decoded_for v).number 6) e)

time_on : (v : List ℕ) → length v ≡ 8 → Milliseconds v → on_time v ≡ true
unfolding on_time late
time_on v l h = ap not (time_is v l ∙ le-ltb 999 (stamp_of v).milliseconds h)

-- ---- each item of the table

pub of_header : Means (exactly 64) (Exactly 64) protocol Protocol
of_header = record { size = λ b. eqb-true b 64; size_back = λ b. eq-eqb b 64; value = λ b v l s. protocol_is v; value_back = λ b v l s. is_protocol v }

pub of_count : Means (exactly 32) (Exactly 32) always Anything
of_count = record { size = λ b. eqb-true b 32; size_back = λ b. eq-eqb b 32; value = λ b v l s e. tt; value_back = λ b v l s e. refl }

pub of_channel : Means (exactly 72) (Exactly 72) (λ v. fast.sealed v && served v) GoodFac
of_channel = record { size = λ b. eqb-true b 72; size_back = λ b. eq-eqb b 72; value = λ b v l s. channel_is v; value_back = λ b v l s. is_channel v (omega arith) }

pub of_block : Means sdc_bits SdcBits block.sealed BlockOrNone
of_block = record { size = sdc_bits_law; size_back = bits_sdc; value = λ b v l s. block_is v; value_back = λ b v l s. is_block v (sdc_length b v l s) }

pub of_description : (mode : ℕ) → Means sdci_bits SdciBits (λ v. not (ill_formed mode (described_by v))) (λ v. described.WellFormed mode (described_by v))
unfolding described_by
of_description mode = record {
  size = sdci_bits_law;
  size_back = bits_sdci;
  value = λ b v l s e. meaning.well mode (described_by v) refl (not_yes (ill_formed mode (described_by v)) e);
  value_back = λ b v l s w. ap not (meaning.well_back mode (described_by v) refl w);
}

pub of_robustness : Means (exactly 8) (Exactly 8) known_mode Robustness
unfolding known_mode
of_robustness = record { size = λ b. eqb-true b 8; size_back = λ b. eq-eqb b 8; value = λ b v l s. leb-true (get_or v 0 0) 3; value_back = λ b v l s. le-leb (get_or v 0 0) 3 }

pub of_stream : Means whole_bytes WholeBytes always Anything
of_stream = record { size = λ b. eqb-true (b % 8) 0; size_back = λ b. eq-eqb (b % 8) 0; value = λ b v l s e. tt; value_back = λ b v l s e. refl }

pub of_time : Means (exactly 64) (Exactly 64) on_time Milliseconds
of_time = record { size = λ b. eqb-true b 64; size_back = λ b. eq-eqb b 64; value = λ b v l s. on_time_law v (omega arith); value_back = λ b v l s. time_on v (omega arith) }
