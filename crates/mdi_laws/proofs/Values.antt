-- The values of a record that can be written: their lengths are the table's, and the timestamp comes back. Assumes nothing.
use Prim.Native.Nat.{ℕ, zero, suc, ◌+◌, ◌*◌, ◌%◌, ◌≤◌}
use mathlib.Core.Path.{◌≡◌, refl, ap}
use mathlib.Core.Bool.{Bool, true, false, ◌&&◌, ◌||◌}
use mathlib.Core.Logic.{◌⊎◌, inl, inr}
use mathlib.Core.List.{List, [], ◌∷◌}
use Rattle.std.specs.Prelude.{Option, None, Some}
use native.Mathlib.Omega.{arith}
use borrow.Author.Tests.{le-leb, eq-eqb, ne_eqb, eqb-true, ltb-false, not-false}
use lib.Dec.{ltb, eqb}
use lib.ListN.{length, get_or}
use Rattle.laws.specs.Pick.{pick}
use Rattle.laws.proofs.Flags.{both, or_false}
use Rattle.clock.specs.declared.Stamp.{Stamp}
use Rattle.clock.specs.Stamps as clock
use Rattle.clock.proofs.Back as stamp
use Rattle.clock.proofs.Fit.{within}
use Rattle.description.specs.declared.Description.{Description}
use Rattle.description.specs.declared.Lengths.{Lengths}
use Rattle.description.specs.Bytes as described
use Rattle.description.specs.Bytes.{said_of}
use Rattle.description.specs.WellFormed as forms
use Rattle.description.proofs.Meaning as meaning
use Rattle.sdc.specs.Block as block
use Rattle.sdc.proofs.Back as blocks
use Rattle.record.specs.declared.Record.{Record}
use Rattle.items.specs.Items.{Found}
use Rattle.items.specs.Joined.{Sound, chunk_size}
use Rattle.mdi_spots.specs.Table.{exactly, whole_bytes, sdc_bits, sdci_bits}
use Rattle.mdi.specs.Conditions.{on_time}
use Rattle.mdi.specs.Reading.{time_of}
use Rattle.mdi_write.specs.Packet.{Streams, entry, time_bytes}
use Rattle.mdi_write.specs.Answers.{bad_time, agreed, Fits}
use Rattle.mdi_write.specs.Rows.{wire_size}
use Rattle.mdi_write.proofs.Values.{value_size_law}
use Rattle.mdi_write.proofs.Numbers.{Small, small_of}
use Rattle.mdi_laws.specs.Typed.{Typed}
use Rattle.mdi_laws.proofs.Stood.{Stood, gone, held}

module _ (r : Record) (ss : Streams) (ty : Typed r) (fits : Fits r ss) where
  pub small : Small r
  small = small_of r fits.fields

  pub well : forms.WellFormed r.fac.msc r.description
  well = meaning.well r.fac.msc r.description ty.slots fits.formed

  -- ---- the values of the items
  pub sdci_length : length (described.value_of r.description) ≡ 1 + 3 * r.description.count
  sdci_length = value_size_law r.description ty.slots well.most

  pub sdc_whole : blocks.Whole r.sdc
  sdc_whole = record { body = ty.body; long = fits.sdc; large = small.sdc }

  pub sdc_size : (length (block.sdc_bytes r.sdc) ≡ 0) ⊎ ((3 ≤ length (block.sdc_bytes r.sdc)) × (length (block.sdc_bytes r.sdc) ≤ 1027))
  sdc_size = blocks.value_size_law r.sdc sdc_whole

  pub sdc_most : length (block.sdc_bytes r.sdc) ≤ 1027
  sdc_most = go sdc_size
    where
      go : (length (block.sdc_bytes r.sdc) ≡ 0) ⊎ ((3 ≤ length (block.sdc_bytes r.sdc)) × (length (block.sdc_bytes r.sdc) ≤ 1027)) → length (block.sdc_bytes r.sdc) ≤ 1027
      go (inl e) = omega arith
      go (inr e) = e.1

pub time_length : (t : Option Stamp) → (length (time_bytes t) ≡ 0) ⊎ (length (time_bytes t) ≡ 8)
unfolding time_bytes
time_length None = inl refl
time_length (Some t) = inr (stamp.value_length_law t)

pub time_most : (t : Option Stamp) → length (time_bytes t) ≤ 8
time_most t = go (time_length t)
  where
    go : (length (time_bytes t) ≡ 0) ⊎ (length (time_bytes t) ≡ 8) → length (time_bytes t) ≤ 8
    go (inl e) = omega arith
    go (inr e) = omega arith

pub sound : (n v : List ℕ) → length n ≡ 4 → length v ≤ 65528 → Sound (entry n v)
sound n v l m = record { four = l; small = omega arith; whole = omega arith }

-- ---- lengths
pub sdc_ok : (n : ℕ) → (n ≡ 0) ⊎ ((3 ≤ n) × (n ≤ 1027)) → sdc_bits (8 * n) ≡ true
sdc_ok n (inl e) = rw e refl
sdc_ok n (inr h) =
    let a = h.0 in
    let b = h.1 in
    let z : 8 * n ≡ 0 → ⊥ = λ e. omega arith in
    let l : 24 ≤ 8 * n = omega arith in
    let m : 8 * n ≤ 8216 = omega arith in
    let w : 8 * n % 8 ≡ 0 = omega arith in
    rw (ne_eqb _ _ z, le-leb _ _ l, le-leb _ _ m, eq-eqb _ _ w) refl

pub sdci_ok : (c : ℕ) → 1 ≤ c → c ≤ 4 → sdci_bits (8 * (1 + 3 * c)) ≡ true
sdci_ok zero h k = absurd (omega arith)
sdci_ok (suc zero) h k = refl
sdci_ok (suc (suc zero)) h k = refl
sdci_ok (suc (suc (suc zero))) h k = refl
sdci_ok (suc (suc (suc (suc zero)))) h k = refl
sdci_ok (suc (suc (suc (suc (suc c))))) h k = absurd (omega arith)

pub bytes_ok : (n : ℕ) → whole_bytes (8 * n) ≡ true
bytes_ok n = let w : 8 * n % 8 ≡ 0 = omega arith in eq-eqb _ _ w

pub size_most : (n : ℕ) → wire_size n ≤ 8 + n
unfolding chunk_size
size_most n = go (eqb (8 * n) 0)
  where
    go : (b : Bool) → pick b 0 (8 + n) ≤ 8 + n
    go true = omega arith
    go false = omega arith

-- no part of a stream is over 4,095 bytes
pub parts : (s : List Lengths) → forms.any forms.over s ≡ false → (i : ℕ) → ((get_or s i described.no_stream).a ≤ 4095) × ((get_or s i described.no_stream).b ≤ 4095)
parts [] e i = (omega arith, omega arith)
parts (l ∷ s) e zero =
    let p = (or_false (forms.over l) (forms.any forms.over s) e).0 in
    let q = or_false (ltb 4095 l.a) (ltb 4095 l.b) p in
    (ltb-false _ _ q.0, ltb-false _ _ q.1)
parts (l ∷ s) e (suc i) = parts s (or_false (forms.over l) (forms.any forms.over s) e).1 i

pub said_most : (d : Description) → forms.is_too_large d ≡ false → (i : ℕ) → said_of d i ≤ 8190
unfolding forms.is_too_large
said_most d e i =
    let p = parts d.stream (or_false (ltb 3 d.level.a || ltb 3 d.level.b) (forms.any forms.over d.stream) e).1 i in
    let a = p.0 in
    let b = p.1 in
    omega arith

pub agreed_each : (d : Description) (ss : Streams) → agreed d ss ≡ true
    → (length ss.s0 ≡ said_of d 0) × (length ss.s1 ≡ said_of d 1) × (length ss.s2 ≡ said_of d 2) × (length ss.s3 ≡ said_of d 3)
unfolding agreed
agreed_each d ss e =
    let a = both (eqb (length ss.s0) (said_of d 0) && eqb (length ss.s1) (said_of d 1) && eqb (length ss.s2) (said_of d 2)) (eqb (length ss.s3) (said_of d 3)) e in
    let b = both (eqb (length ss.s0) (said_of d 0) && eqb (length ss.s1) (said_of d 1)) (eqb (length ss.s2) (said_of d 2)) a.0 in
    let c = both (eqb (length ss.s0) (said_of d 0)) (eqb (length ss.s1) (said_of d 1)) b.0 in
    (eqb-true _ _ c.0, eqb-true _ _ c.1, eqb-true _ _ b.1, eqb-true _ _ a.1)

-- ---- the timestamp
pub time_good : (t : Option Stamp) → bad_time t ≡ false → (length (time_bytes t) ≡ 0 → ⊥) → on_time (time_bytes t) ≡ true
unfolding time_bytes bad_time on_time
time_good None b z = absurd (z refl)
time_good (Some t) b z =
    let w = within t (eqb-true _ _ (not-false _ b)) in
    rw (stamp.decodes (clock.stamp_bytes t) (stamp.value_length_law t) (stamp.never_late t w)) refl

pub time_size : (t : Option Stamp) → (length (time_bytes t) ≡ 0 → ⊥) → exactly 64 (8 * length (time_bytes t)) ≡ true
time_size t z = go (time_length t)
  where
    go : (length (time_bytes t) ≡ 0) ⊎ (length (time_bytes t) ≡ 8) → exactly 64 (8 * length (time_bytes t)) ≡ true
    go (inl e) = absurd (z e)
    go (inr e) = rw e refl

pub time_back : (f : Found) (t : Option Stamp) → bad_time t ≡ false → Stood f (time_bytes t) → time_of f ≡ t
unfolding time_bytes bad_time time_of
time_back f None b (gone g) = rw g.none_there refl
time_back f None b (held h) = absurd (h.filled refl)
time_back f (Some t) b (gone g) = let z : length (clock.stamp_bytes t) ≡ 0 = ap length g.empty in let k = stamp.value_length_law t in absurd (omega arith)
time_back f (Some t) b (held h) =
    let w = within t (eqb-true _ _ (not-false _ b)) in
    let d = stamp.decodes (clock.stamp_bytes t) (stamp.value_length_law t) (stamp.never_late t w) in
    rw (h.there, h.value, d, stamp.stamp_back t w) refl
