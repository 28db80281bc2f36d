-- B1: a packet is accepted exactly if it is well formed; and the number of a refusal is the lowest whose condition holds. Assumes
-- nothing.
use Prim.Native.Nat.{ℕ, zero, suc, ◌+◌, ◌-◌, ◌≤◌, ◌<◌}
use mathlib.Core.Path.{◌≡◌, refl, sym, ap, ◌∙◌, subst}
use mathlib.Core.Bool.{Bool, true, false, ◌&&◌, ◌||◌, not, true≢false}
use mathlib.Core.List.{List, [], ◌∷◌}
use mathlib.Core.Logic.{⊎_elim}
use native.Mathlib.Omega.{arith}
use borrow.Author.Tests.{lt-ltb, le-ltb, lt-leb, eq-eqb, eqb-true, ltb-false, leb-false}
use lib.Dec.{eqb, lit<}
use lib.ListN.{length, get_or-eq_default}
use Rattle.laws.specs.Limits.{longest}
use Rattle.laws.specs.Refuse.{Test, refused_with, Rising, Among}
use Rattle.laws.proofs.Refuse.{free, real, accepted, least, Given, given}
use Rattle.laws.proofs.Flags.{both, or_false}
use Rattle.description.specs.Bytes.{no_stream, said_of, described_by}
use Rattle.description.specs.WellFormed as described
use Rattle.description.proofs.Meaning.{within}
use Rattle.description.specs.WellFormed.{ill_formed}
use Rattle.description.specs.declared.Description.{Description}
use Rattle.description.specs.declared.Lengths.{Lengths}
use Rattle.fac.specs.Channel as fast
use Rattle.sdc.specs.Block as block
use Rattle.items.specs.Items.{Item, Found, none, some, cut_of, find, value_of}
use Rattle.items.proofs.Once.{once_of, of_once}
use Rattle.mdi_spots.specs.Names.{ptr, dlfc, fac, sdc, sdci, robm, str0, str1, str2, str3, tist}
use Rattle.mdi_spots.specs.Table.{Row, table, name_of, any_row, absent, wrong, ill, exactly, whole_bytes, sdc_bits, sdci_bits, missing, bad_length}
use Rattle.mdi.specs.Conditions.{protocol, known_mode, on_time, served, msc_mode, agrees, bad_value, bad_fac, bad_sdc, unserved, bad_description, bad_streams}
use Rattle.mdi.specs.Conditions as conditions
use Rattle.mdi.specs.Refusals.{item_tests, tests_for}
use Rattle.mdi.specs.Reading.{stream_of}
use Rattle.mdi_laws.specs.WellFormed.{Exactly, WholeBytes, SdcBits, SdciBits, Anything, Protocol, GoodFac, BlockOrNone, Robustness, Milliseconds, description_in, WellFormed}
use Rattle.mdi_laws.proofs.Items.{not_no, required, required_back, optional, optional_back, always, ill_always, ill_both, ill_each}
use Rattle.mdi_laws.proofs.Meaning.{of_header, of_count, of_channel, of_block, of_description, of_robustness, of_stream, of_time}

-- ---- the number is the lowest

pub rising : (p : List ℕ) → Rising 0 (tests_for p)
unfolding tests_for item_tests
rising p = (lit< tt, (lit< tt, (lit< tt, (lit< tt, (lit< tt, (lit< tt, (lit< tt, (lit< tt, (lit< tt, (lit< tt, (lit< tt, tt)))))))))))

-- no condition with a lower number holds
pub lowest : (p : List ℕ) (t : Test) → Among t (tests_for p) → t.holds ≡ true → refused_with (tests_for p) ≤ t.number
lowest p t a h = least 0 (tests_for p) (rising p) t a h

-- and a condition with the number and the place given holds
pub holds : (p : List ℕ) → (refused_with (tests_for p) ≡ 0 → ⊥) → Given (tests_for p)
holds p n = given (tests_for p) n

-- ---- the streams

module _ (is : List Item) (d : Description) (four : length d.stream ≡ 4) where
  over : (k : ℕ) → 4 ≤ k → said_of d k ≡ 0
  over k h = ap (λ (l : Lengths). l.a + l.b) (get_or-eq_default d.stream no_stream {n = k} (omega arith))

  none_over : (k : ℕ) → 4 ≤ k → stream_of is k ≡ []
  unfolding stream_of
  none_over k h =
      rw (lt-ltb 3 k (omega arith)) refl

  pub lengths : agrees is d ≡ true → (k : ℕ) → length (stream_of is k) ≡ said_of d k
  unfolding agrees stream_of
  lengths e k = go k
    where
      s3 : (conditions.given str3 is ≡ said_of d 3)
      s3 = eqb-true _ _ (both (eqb (conditions.given str0 is) (said_of d 0) && eqb (conditions.given str1 is) (said_of d 1) && eqb (conditions.given str2 is) (said_of d 2)) (eqb (conditions.given str3 is) (said_of d 3)) e).1

      e2 : (eqb (conditions.given str0 is) (said_of d 0) && eqb (conditions.given str1 is) (said_of d 1) && eqb (conditions.given str2 is) (said_of d 2)) ≡ true
      e2 = (both (eqb (conditions.given str0 is) (said_of d 0) && eqb (conditions.given str1 is) (said_of d 1) && eqb (conditions.given str2 is) (said_of d 2)) (eqb (conditions.given str3 is) (said_of d 3)) e).0

      s2 : (conditions.given str2 is ≡ said_of d 2)
      s2 = eqb-true _ _ (both (eqb (conditions.given str0 is) (said_of d 0) && eqb (conditions.given str1 is) (said_of d 1)) (eqb (conditions.given str2 is) (said_of d 2)) e2).1

      e1 : (eqb (conditions.given str0 is) (said_of d 0) && eqb (conditions.given str1 is) (said_of d 1)) ≡ true
      e1 = (both (eqb (conditions.given str0 is) (said_of d 0) && eqb (conditions.given str1 is) (said_of d 1)) (eqb (conditions.given str2 is) (said_of d 2)) e2).0

      s1 : (conditions.given str1 is ≡ said_of d 1)
      s1 = eqb-true _ _ (both (eqb (conditions.given str0 is) (said_of d 0)) (eqb (conditions.given str1 is) (said_of d 1)) e1).1

      s0 : (conditions.given str0 is ≡ said_of d 0)
      s0 = eqb-true _ _ (both (eqb (conditions.given str0 is) (said_of d 0)) (eqb (conditions.given str1 is) (said_of d 1)) e1).0

      go : (k : ℕ) → length (stream_of is k) ≡ said_of d k
      go zero = s0
      go (suc zero) = s1
      go (suc (suc zero)) = s2
      go (suc (suc (suc zero))) = s3
      go (suc (suc (suc (suc k)))) =
          let m : 4 ≤ suc (suc (suc (suc k))) = omega arith in
          ap length (none_over (suc (suc (suc (suc k)))) m) ∙ sym (over (suc (suc (suc (suc k)))) m)

  pub lengths_back : ((k : ℕ) → length (stream_of is k) ≡ said_of d k) → agrees is d ≡ true
  unfolding agrees stream_of
  lengths_back h =
      rw (eq-eqb (conditions.given str0 is) (said_of d 0) (h 0), eq-eqb (conditions.given str1 is) (said_of d 1) (h 1), eq-eqb (conditions.given str2 is) (said_of d 2) (h 2), eq-eqb (conditions.given str3 is) (said_of d 3) (h 3)) refl

-- ---- tests joined by "or"

three : (a b c : Bool) → (a || b || c) ≡ false → (a ≡ false) × (b ≡ false) × (c ≡ false)
three a b c e0 =
    let q2 = or_false (a || b) c e0 in
    let q1 = or_false (a) b q2.0 in
    (q1.0, q1.1, q2.1)

-- no row has what a test looks for
abbrev NoRow : (Row → Bool) → List Row → Type 0
NoRow f [] = Unit {0}
NoRow f (r ∷ rs) = (f r ≡ false) × NoRow f rs

each_row : (f : Row → Bool) (rs : List Row) → any_row f rs ≡ false → NoRow f rs
each_row f [] e = tt
each_row f (r ∷ rs) e = let q = or_false (f r) (any_row f rs) e in (q.0, each_row f rs q.1)

no_row : (f : Row → Bool) (rs : List Row) → NoRow f rs → any_row f rs ≡ false
no_row f [] n = refl
no_row f (r ∷ rs) n = rw n.0 (no_row f rs n.1)

-- ---- THE THEOREM

module _ (p : List ℕ) where
  abbrev is : List Item
  is = (cut_of p).items

  -- what the tests say of each item
  record Passed : Type 0 where
    there : NoRow (λ r. r.required && absent (find r.name is)) table
    sized : NoRow (λ r. wrong r.allowed (find r.name is)) table
    known : (ill protocol (find ptr is) ≡ false) × (ill known_mode (find robm is) ≡ false) × (ill on_time (find tist is) ≡ false)

  passed : missing is ≡ false → bad_length is ≡ false → bad_value is ≡ false → Passed
  unfolding missing bad_length bad_value
  passed m l v = record {
    there = each_row (λ r. r.required && absent (find r.name is)) table m;
    sized = each_row (λ r. wrong r.allowed (find r.name is)) table l;
    known = three (ill protocol (find ptr is)) (ill known_mode (find robm is)) (ill on_time (find tist is)) v;
  }

  streams_sized : NoRow (λ r. wrong r.allowed (find r.name is)) table → (k : ℕ) → k < 4 → wrong whole_bytes (find (name_of (6 + k)) is) ≡ false
  streams_sized n zero h = n.1.1.1.1.1.1.0
  streams_sized n (suc zero) h = n.1.1.1.1.1.1.1.0
  streams_sized n (suc (suc zero)) h = n.1.1.1.1.1.1.1.1.0
  streams_sized n (suc (suc (suc zero))) h = n.1.1.1.1.1.1.1.1.1.0
  streams_sized n (suc (suc (suc (suc k)))) h = absurd (omega arith)

  abbrev d : Description
  d = description_in is

  four : length d.stream ≡ 4
  unfolding described_by
  four = refl

  -- the description of an item that is there
  said : (i : Item) → find sdci is ≡ some i → described_by i.value ≡ d
  unfolding value_of
  said i e = ap (λ (f : Found). described_by (value_of f)) (sym e)

  agreed : absent (find sdci is) ≡ false → bad_streams is ≡ false → agrees is d ≡ true
  unfolding absent bad_streams ill value_of
  agreed a b = go (find sdci is) refl a b
    where
      go : (x : Found) → find sdci is ≡ x → absent x ≡ false → ill (λ v. agrees is (described_by v)) x ≡ false → agrees is d ≡ true
      go none e a b = absurd (true≢false a)
      go (some i) e a b = ap (agrees is) (sym (said i e)) ∙ not_no (agrees is (described_by i.value)) b

  agreed_back : agrees is d ≡ true → bad_streams is ≡ false
  unfolding bad_streams ill value_of
  agreed_back h = go (find sdci is) refl
    where
      go : (x : Found) → find sdci is ≡ x → ill (λ v. agrees is (described_by v)) x ≡ false
      go none e = refl
      go (some i) e = ap not (ap (agrees is) (said i e) ∙ h)

  pub well : refused_with (tests_for p) ≡ 0 → WellFormed p
  unfolding tests_for item_tests bad_fac bad_sdc unserved bad_description
  well e =
      let f = free (tests_for p) (real 0 (tests_for p) (rising p)) e in
      let g = f.1.1.1 in
      let q = passed g.0 g.1.0 g.1.1.0 in
      let w = required p sdci sdci_bits SdciBits (λ v. not (ill_formed (msc_mode is) (described_by v))) (λ v. described.WellFormed (msc_mode is) (described_by v)) (of_description (msc_mode is)) q.there.1.1.1.1.0 q.sized.1.1.1.1.0 g.1.1.1.1.1.1.0 in
      let n = lengths is d four (agreed q.there.1.1.1.1.0 g.1.1.1.1.1.1.1.0) in
      let s : described.WellFormed (msc_mode is) d = subst (λ (x : Description). described.WellFormed (msc_mode is) x) (said w.item w.there) w.content in
      record {
        short = ltb-false longest (length p) f.0;
        whole = leb-false 8 (length p - (cut_of p).stop) f.1.0;
        once = once_of is f.1.1.0;
        header = required p ptr (exactly 64) (Exactly 64) protocol Protocol of_header q.there.0 q.sized.0 q.known.0;
        count = required p dlfc (exactly 32) (Exactly 32) always Anything of_count q.there.1.0 q.sized.1.0 (ill_always (find dlfc is));
        channel = required p fac (exactly 72) (Exactly 72) (λ v. fast.sealed v && served v) GoodFac of_channel q.there.1.1.0 q.sized.1.1.0 (ill_both fast.sealed served (find fac is) g.1.1.1.0 g.1.1.1.1.1.0);
        block = optional p sdc sdc_bits SdcBits block.sealed BlockOrNone of_block q.sized.1.1.1.0 g.1.1.1.1.0;
        description = w;
        robustness = required p robm (exactly 8) (Exactly 8) known_mode Robustness of_robustness q.there.1.1.1.1.1.0 q.sized.1.1.1.1.1.0 q.known.1;
        streams = λ k h. optional p (name_of (6 + k)) whole_bytes WholeBytes always Anything of_stream (streams_sized q.sized k h) (ill_always (find (name_of (6 + k)) is));
        time = optional p tist (exactly 64) (Exactly 64) on_time Milliseconds of_time q.sized.1.1.1.1.1.1.1.1.1.1.0 q.known.2;
        filled = λ k h. n k;
        empty = λ k h. n k ∙ ap (λ (l : Lengths). l.a + l.b) (s.behind k h);
      }

  -- the lengths of all streams, those of the description and the others
  all_lengths : WellFormed p → (k : ℕ) → length (stream_of is k) ≡ said_of d k
  all_lengths w k =
      let r = w.description in
      let s : described.WellFormed (msc_mode is) d = subst (λ (x : Description). described.WellFormed (msc_mode is) x) (said r.item r.there) r.content in
      ⊎_elim (λ h. w.filled k h) (λ h. w.empty k h ∙ sym (ap (λ (l : Lengths). l.a + l.b) (s.behind k h))) (within k d.count)

  pub accepts : WellFormed p → refused_with (tests_for p) ≡ 0
  unfolding tests_for item_tests missing bad_length bad_value bad_fac bad_sdc unserved bad_description
  accepts w =
      let h = required_back p ptr (exactly 64) (Exactly 64) protocol Protocol of_header w.header in
      let c = required_back p dlfc (exactly 32) (Exactly 32) always Anything of_count w.count in
      let f = required_back p fac (exactly 72) (Exactly 72) (λ v. fast.sealed v && served v) GoodFac of_channel w.channel in
      let ff = ill_each fast.sealed served (find fac is) f.2 in
      let b = optional_back p sdc sdc_bits SdcBits block.sealed BlockOrNone of_block w.block in
      let x = required_back p sdci sdci_bits SdciBits (λ v. not (ill_formed (msc_mode is) (described_by v))) (λ v. described.WellFormed (msc_mode is) (described_by v)) (of_description (msc_mode is)) w.description in
      let r = required_back p robm (exactly 8) (Exactly 8) known_mode Robustness of_robustness w.robustness in
      let s : (k : ℕ) → k < 4 → (wrong whole_bytes (find (name_of (6 + k)) is) ≡ false) × (ill always (find (name_of (6 + k)) is) ≡ false) =
      λ k h. optional_back p (name_of (6 + k)) whole_bytes WholeBytes always Anything of_stream (w.streams k h) in
      let t = optional_back p tist (exactly 64) (Exactly 64) on_time Milliseconds of_time w.time in
      let l = agreed_back (lengths_back is d four (all_lengths w)) in
      accepted (tests_for p) (
        le-ltb longest (length p) w.short,
        (
          lt-leb 8 (length p - (cut_of p).stop) w.whole,
          (
            of_once is w.once,
            (
              no_row (λ r. r.required && absent (find r.name is)) table (h.0, (c.0, (f.0, (refl, (x.0, (r.0, (refl, (refl, (refl, (refl, (refl, tt))))))))))),
              (
                no_row (λ r. wrong r.allowed (find r.name is)) table (h.1, (c.1, (f.1, (b.0, (x.1, (r.1, ((s 0 (lit< tt)).0, ((s 1 (lit< tt)).0, ((s 2 (lit< tt)).0, ((s 3 (lit< tt)).0, (t.0, tt))))))))))),
                (
                  rw (h.2, r.2, t.1) refl,
                  (
                    ff.0,
                    (
                      b.1,
                      (
                        ff.1,
                        (
                          x.2,
                          (l, tt),
                        ),
                      ),
                    ),
                  ),
                ),
              ),
            ),
          ),
        ),
      )
