-- Packets that are alike are read alike. Assumes nothing.
use Prim.Native.Nat.{ℕ, zero, suc, ◌+◌, ◌-◌, ◌/◌, ◌%◌, ◌≤◌, ◌<◌}
use mathlib.Core.Path.{◌≡◌, refl, sym, ap, ap₂, ◌∙◌}
use mathlib.Core.Bool.{Bool, true, false, ◌&&◌, ◌||◌, not}
use mathlib.Core.List.{List, [], ◌∷◌}
use native.Mathlib.Omega.{arith}
use borrow.Author.Tests.{lt-ltb, le-ltb, lt-leb}
use lib.ListN.{length, get_or, take, drop}
use lib.Seq.{drop-drop}
use Rattle.laws.specs.Big.{big_of, number_at}
use Rattle.laws.specs.Limits.{longest}
use Rattle.laws.specs.Refuse.{refused_with, refused_at}
use Rattle.description.specs.Bytes.{level_bits, fields_in, slot_at, described_by}
use Rattle.description.specs.WellFormed.{ill_formed}
use Rattle.description.specs.declared.Description.{Description}
use Rattle.fac.specs.Channel as fast
use Rattle.fac.specs.Channel.{fac_of}
use Rattle.sdc.specs.Block as block
use Rattle.items.specs.Items.{Item, Found, none, some, cut_of, find, value_of, same_name, among, Once}
use Rattle.items.proofs.Names.{same_list, list_same}
use Rattle.items.proofs.Once.{of_once}
use Rattle.mdi_spots.specs.Names.{ptr, dlfc, fac, sdc, sdci, robm, str0, str1, str2, str3, tist}
use Rattle.mdi_spots.specs.Table.{Row, table, any_row, names_of, name_of, absent, wrong, ill, missing, bad_length}
use Rattle.mdi.specs.Conditions.{protocol, known_mode, on_time, served, msc_mode, agrees, bad_value, bad_fac, bad_sdc, unserved, bad_description, bad_streams}
use Rattle.mdi.specs.Refusals.{item_tests, tests_for}
use Rattle.mdi.proofs.Checks.{items_place}
use Rattle.mdi.specs.Reading.{time_of, record_of, read_for, stream_of, stream_for}
use Rattle.mdi_laws.specs.Ignored.{ButMinor, ButReserved}
use Rattle.mdi_laws.specs.NoMatter.{known}

-- ---- alike

-- both are there or neither is; there, they have the same bits, and values that are alike
abbrev pub Like : (List ℕ → List ℕ → Type 0) → Found → Found → Type 0
Like R none none = Unit {0}
Like R none (some j) = ⊥
Like R (some i) none = ⊥
Like R (some i) (some j) = (i.bits ≡ j.bits) × R i.value j.value

abbrev pub Same : List ℕ → List ℕ → Type 0
Same v w = v ≡ w

-- the items of two packets that differ in nothing else than does not matter, row by row
pub record Alike (is js : List Item) : Type 0 where
  pub header : Like ButMinor (find ptr is) (find ptr js)
  pub description : Like ButReserved (find sdci is) (find sdci js)
  pub others : (n : List ℕ) → among n known ≡ true → same_name n ptr ≡ false → same_name n sdci ≡ false → Like Same (find n is) (find n js)

-- a packet that is not refused with 1, 2 or 3
pub record Plain (p : List ℕ) : Type 0 where
  pub short : length p ≤ longest
  pub whole : length p - (cut_of p).stop < 8
  pub once : Once (cut_of p).items

-- ---- one item

abbrev Any : List ℕ → List ℕ → Type 0
Any v w = Unit {0}

module _ (R : List ℕ → List ℕ → Type 0) where
  absent_same : (f g : Found) → Like R f g → absent f ≡ absent g
  unfolding absent
  absent_same none none l = refl
  absent_same none (some j) l = absurd l
  absent_same (some i) none l = absurd l
  absent_same (some i) (some j) l = refl

  wrong_same : (ok : ℕ → Bool) (f g : Found) → Like R f g → wrong ok f ≡ wrong ok g
  unfolding wrong
  wrong_same ok none none l = refl
  wrong_same ok none (some j) l = absurd l
  wrong_same ok (some i) none l = absurd l
  wrong_same ok (some i) (some j) l = ap (λ (b : ℕ). not (ok b)) l.0

  -- whatever the values
  loosely : (f g : Found) → Like R f g → Like Any f g
  loosely none none l = tt
  loosely none (some j) l = absurd l
  loosely (some i) none l = absurd l
  loosely (some i) (some j) l = (l.0, tt)

  ill_same : (a b : List ℕ → Bool) → ((v w : List ℕ) → R v w → a v ≡ b w) → (f g : Found) → Like R f g → ill a f ≡ ill b g
  unfolding ill
  ill_same a b h none none l = refl
  ill_same a b h none (some j) l = absurd l
  ill_same a b h (some i) none l = absurd l
  ill_same a b h (some i) (some j) l = ap not (h i.value j.value l.1)

value_same : (f g : Found) → Like Same f g → value_of f ≡ value_of g
unfolding value_of
value_same none none l = refl
value_same none (some j) l = absurd l
value_same (some i) none l = absurd l
value_same (some i) (some j) l = l.1

time_same : (f g : Found) → Like Same f g → time_of f ≡ time_of g
unfolding time_of
time_same none none l = refl
time_same none (some j) l = absurd l
time_same (some i) none l = absurd l
time_same (some i) (some j) l = rw l.1 refl

-- the same test on the same values
plain : (a : List ℕ → Bool) (f g : Found) → Like Same f g → ill a f ≡ ill a g
plain a f g l = ill_same Same a a (λ v w e. ap a e) f g l

-- ---- the minor revision

take_take : (v : List ℕ) → take 4 (take 6 v) ≡ take 4 v
take_take [] = refl
take_take (a ∷ []) = refl
take_take (a ∷ b ∷ []) = refl
take_take (a ∷ b ∷ c ∷ []) = refl
take_take (a ∷ b ∷ c ∷ d ∷ v) = refl

major_at : (v : List ℕ) → number_at 2 (take 6 v) 4 ≡ number_at 2 v 4
unfolding number_at
major_at [] = refl
major_at (a ∷ []) = refl
major_at (a ∷ b ∷ []) = refl
major_at (a ∷ b ∷ c ∷ []) = refl
major_at (a ∷ b ∷ c ∷ d ∷ []) = refl
major_at (a ∷ b ∷ c ∷ d ∷ e ∷ []) = refl
major_at (a ∷ b ∷ c ∷ d ∷ e ∷ f ∷ v) =
    let h : 4 + 2 ≤ length (a ∷ b ∷ c ∷ d ∷ e ∷ f ∷ v) = omega arith in
    rw (borrow.Author.Tests.le-leb (4 + 2) (length (a ∷ b ∷ c ∷ d ∷ e ∷ f ∷ v)) h) refl

protocol_same : (v w : List ℕ) → ButMinor v w → protocol v ≡ protocol w
unfolding protocol
protocol_same v w e =
    let f : take 4 v ≡ take 4 w = sym (take_take v) ∙ ap (take 4) e ∙ take_take w in
    let m : number_at 2 v 4 ≡ number_at 2 w 4 = sym (major_at v) ∙ ap (λ (x : List ℕ). number_at 2 x 4) e ∙ major_at w in
    rw (f, m) refl

-- ---- the reserved bits

first_level : (v : List ℕ) → get_or (fields_in level_bits (take 1 v)) 1 0 ≡ get_or v 0 0 % 16 / 4
unfolding big_of
first_level [] = refl
first_level (x ∷ v) = omega arith

second_level : (v : List ℕ) → get_or (fields_in level_bits (take 1 v)) 2 0 ≡ get_or v 0 0 % 16 % 4
unfolding big_of
second_level [] = refl
second_level (x ∷ v) = omega arith

slot_same : (v w : List ℕ) (k : ℕ) → ButReserved v w → slot_at v (1 + k) ≡ slot_at w (1 + k)
unfolding slot_at
slot_same v w k r =
    let e : drop (1 + k) v ≡ drop (1 + k) w = sym (drop-drop k 1 v) ∙ ap (drop k) r.rest ∙ drop-drop k 1 w in
    rw (e, r.size) refl

described_same : (v w : List ℕ) → ButReserved v w → described_by v ≡ described_by w
unfolding described_by
described_same v w r =
    let a : get_or (fields_in level_bits (take 1 v)) 1 0 ≡ get_or (fields_in level_bits (take 1 w)) 1 0 = first_level v ∙ ap (λ (x : ℕ). x / 4) r.levels ∙ sym (first_level w) in
    let b : get_or (fields_in level_bits (take 1 v)) 2 0 ≡ get_or (fields_in level_bits (take 1 w)) 2 0 = second_level v ∙ ap (λ (x : ℕ). x % 4) r.levels ∙ sym (second_level w) in
    let n : length v / 3 ≡ length w / 3 = ap (λ (x : ℕ). x / 3) r.size in
    let s0 : slot_at v 1 ≡ slot_at w 1 = slot_same v w 0 r in
    let s1 : slot_at v 4 ≡ slot_at w 4 = slot_same v w 3 r in
    let s2 : slot_at v 7 ≡ slot_at w 7 = slot_same v w 6 r in
    let s3 : slot_at v 10 ≡ slot_at w 10 = slot_same v w 9 r in
    cc

described_found : (f g : Found) → Like ButReserved f g → described_by (value_of f) ≡ described_by (value_of g)
unfolding value_of
described_found none none l = refl
described_found none (some j) l = absurd l
described_found (some i) none l = absurd l
described_found (some i) (some j) l = described_same i.value j.value l.1

-- ---- the conditions, the record and the streams

or_r : (b : Bool) → (b || true) ≡ true
or_r true = refl
or_r false = refl

-- a test of each row
any_same : (f g : Row → Bool) (rs : List Row) → ((r : Row) → among r.name (names_of rs) ≡ true → f r ≡ g r) → any_row f rs ≡ any_row g rs
unfolding among
any_same f g [] h = refl
any_same f g (r ∷ rs) h =
    ap₂ (λ (a b : Bool). a || b) (h r (rw (list_same r.name r.name refl) refl))
    (any_same f g rs (λ x e. h x (ap (λ (b : Bool). same_name x.name r.name || b) e ∙ or_r (same_name x.name r.name))))

module _ (is js : List Item) (l : Alike is js) where
  -- every row, whatever its value
  row_like : (n : List ℕ) → among n known ≡ true → Like Any (find n is) (find n js)
  row_like n k = go (same_name n ptr) (same_name n sdci) refl refl
    where
      go : (a b : Bool) → same_name n ptr ≡ a → same_name n sdci ≡ b → Like Any (find n is) (find n js)
      go true b p d = rw (same_list n ptr p) (loosely ButMinor (find ptr is) (find ptr js) l.header)
      go false true p d = rw (same_list n sdci d) (loosely ButReserved (find sdci is) (find sdci js) l.description)
      go false false p d = loosely Same (find n is) (find n js) (l.others n k p d)

  value_of_law : (n : List ℕ) → among n known ≡ true → same_name n ptr ≡ false → same_name n sdci ≡ false → value_of (find n is) ≡ value_of (find n js)
  value_of_law n k p d = value_same (find n is) (find n js) (l.others n k p d)

  good_of : (a : List ℕ → Bool) (n : List ℕ) → among n known ≡ true → same_name n ptr ≡ false → same_name n sdci ≡ false → ill a (find n is) ≡ ill a (find n js)
  good_of a n k p d = plain a (find n is) (find n js) (l.others n k p d)

  f_fac : value_of (find fac is) ≡ value_of (find fac js)
  unfolding among same_name
  f_fac = value_of_law fac refl refl refl

  missing_same : missing is ≡ missing js
  unfolding missing
  missing_same =
      any_same (λ r. r.required && absent (find r.name is)) (λ r. r.required && absent (find r.name js)) table
      (λ r e. ap (λ (b : Bool). r.required && b) (absent_same Any (find r.name is) (find r.name js) (row_like r.name e)))

  length_same : bad_length is ≡ bad_length js
  unfolding bad_length
  length_same =
      any_same (λ r. wrong r.allowed (find r.name is)) (λ r. wrong r.allowed (find r.name js)) table
      (λ r e. wrong_same Any r.allowed (find r.name is) (find r.name js) (row_like r.name e))

  known_same : bad_value is ≡ bad_value js
  unfolding bad_value among same_name
  known_same =
      rw (ill_same ButMinor protocol protocol protocol_same (find ptr is) (find ptr js) l.header, good_of known_mode robm refl refl refl, good_of on_time tist refl refl refl) refl

  fac_same : bad_fac is ≡ bad_fac js
  unfolding bad_fac among same_name
  fac_same = good_of fast.sealed fac refl refl refl

  sdc_same : bad_sdc is ≡ bad_sdc js
  unfolding bad_sdc among same_name
  sdc_same = good_of block.sealed sdc refl refl refl

  served_same : unserved is ≡ unserved js
  unfolding unserved among same_name
  served_same = good_of served fac refl refl refl

  mode_same : msc_mode is ≡ msc_mode js
  unfolding msc_mode
  mode_same = ap (λ (v : List ℕ). (fac_of v).msc) f_fac

  description_same : bad_description is ≡ bad_description js
  unfolding bad_description
  description_same =
      ill_same ButReserved (λ v. not (ill_formed (msc_mode is) (described_by v))) (λ v. not (ill_formed (msc_mode js) (described_by v)))
      (λ v w r. ap₂ (λ (m : ℕ) (d : Description). not (ill_formed m d)) mode_same (described_same v w r)) (find sdci is) (find sdci js) l.description

  agrees_same : (v w : List ℕ) → ButReserved v w → agrees is (described_by v) ≡ agrees js (described_by w)
  unfolding agrees among same_name
  agrees_same v w r =
      rw (value_of_law str0 refl refl refl, value_of_law str1 refl refl refl, value_of_law str2 refl refl refl, value_of_law str3 refl refl refl, described_same v w r) refl

  streams_same : bad_streams is ≡ bad_streams js
  unfolding bad_streams
  streams_same = ill_same ButReserved (λ v. agrees is (described_by v)) (λ v. agrees js (described_by v)) agrees_same (find sdci is) (find sdci js) l.description

  pub tests_same : item_tests is ≡ item_tests js
  unfolding item_tests
  tests_same = rw (missing_same, length_same, known_same, fac_same, sdc_same, served_same, description_same, streams_same) refl

  pub content_same : record_of is ≡ record_of js
  unfolding record_of among same_name
  content_same =
      rw (
        value_of_law dlfc refl refl refl,
        f_fac,
        value_of_law sdc refl refl refl,
        described_found (find sdci is) (find sdci js) l.description,
        value_of_law robm refl refl refl,
        time_same (find tist is) (find tist js) (l.others tist refl refl refl),
      ) refl

  pub stream_same : (k : ℕ) → stream_of is k ≡ stream_of js k
  unfolding stream_of among same_name
  stream_same zero = value_of_law (name_of 6) refl refl refl
  stream_same (suc zero) = value_of_law (name_of 7) refl refl refl
  stream_same (suc (suc zero)) = value_of_law (name_of 8) refl refl refl
  stream_same (suc (suc (suc zero))) = value_of_law (name_of 9) refl refl refl
  stream_same (suc (suc (suc (suc k)))) = rw (lt-ltb 3 (suc (suc (suc (suc k)))) (omega arith)) refl

-- ---- THE THEOREM

-- what is left of the refusals of a packet that passes 1, 2 and 3
module _ (p : List ℕ) (h : Plain p) where
  pub number_left : refused_with (tests_for p) ≡ refused_with (item_tests (cut_of p).items)
  unfolding tests_for
  number_left = rw (le-ltb longest (length p) h.short, lt-leb 8 (length p - (cut_of p).stop) h.whole, of_once (cut_of p).items h.once) refl

  pub place_left : refused_at (tests_for p) ≡ 0
  unfolding tests_for
  place_left = rw (le-ltb longest (length p) h.short, lt-leb 8 (length p - (cut_of p).stop) h.whole, of_once (cut_of p).items h.once) (items_place (cut_of p).items)

module _ (p q : List ℕ) (hp : Plain p) (hq : Plain q) (l : Alike (cut_of p).items (cut_of q).items) where
  same_number : refused_with (tests_for p) ≡ refused_with (tests_for q)
  same_number = number_left p hp ∙ ap refused_with (tests_same (cut_of p).items (cut_of q).items l) ∙ sym (number_left q hq)

  pub ignored : read_for p ≡ read_for q
  unfolding read_for
  ignored = rw (same_number, place_left p hp, place_left q hq, content_same (cut_of p).items (cut_of q).items l) refl

  pub ignored_stream : (k : ℕ) → stream_for p k ≡ stream_for q k
  unfolding stream_for
  ignored_stream k = rw (same_number, stream_same (cut_of p).items (cut_of q).items l k) refl
