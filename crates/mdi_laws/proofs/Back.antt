-- B2: reading what was written gives the record and each stream back. Assumes nothing.
use Prim.Native.Nat.{ℕ, ◌*◌, ◌≤◌, ◌<◌}
use mathlib.Core.Path.{◌≡◌, refl, ap, ap₂, ◌∙◌}
use mathlib.Core.Bool.{true, false, not}
use mathlib.Core.List.{List, [], ◌∷◌}
use native.Mathlib.Omega.{arith}
use borrow.Author.Tests.{le-leb, eq-eqb}
use lib.Dec.{lit<}
use lib.ListN.{length, get_or}
use Rattle.laws.specs.Big.{bytes_of, big_of, number_at}
use Rattle.laws.specs.Limits.{longest}
use Rattle.laws.specs.Refuse.{refused_with}
use Rattle.laws.proofs.Big.{big_back, bytes_length}
use Rattle.laws.proofs.Refuse.{accepted}
use Rattle.clock.proofs.Answers.{whole}
use Rattle.description.specs.declared.Description.{Description}
use Rattle.description.specs.Bytes as described
use Rattle.description.specs.WellFormed as forms
use Rattle.description.proofs.Back as descriptions
use Rattle.fac.specs.Channel as fast
use Rattle.fac.proofs.Back as channel
use Rattle.sdc.specs.Block as block
use Rattle.sdc.proofs.Back as blocks
use Rattle.record.specs.declared.Record.{Record}
use Rattle.items.specs.Items.{Item, Found, Cut, cut_of, find, same_name, among, value_of}
use Rattle.items.specs.Joined.{placed, kept, Sound, Distinct, bare}
use Rattle.items.proofs.Joins.{cut_packet, kept_all, kept_distinct, once_placed, find_written}
use Rattle.mdi_spots.specs.Names.{ptr, dlfc, fac, sdc, sdci, robm, str0, str1, str2, str3, tist}
use Rattle.mdi_spots.specs.Table.{table, names_of, name_of, exactly, sdci_bits, missing, bad_length}
use Rattle.mdi.specs.Conditions.{protocol, known_mode, on_time, served, msc_mode, agrees, bad_value, bad_fac, bad_sdc, unserved, bad_description, bad_streams}
use Rattle.mdi.specs.Refusals.{item_tests, tests_for}
use Rattle.mdi.specs.Reading.{record_of, read_for, stream_of, stream_for}
use Rattle.mdi_write.specs.Packet.{Streams, opening, time_bytes, values_of, items_of, packet_of}
use Rattle.mdi_write.specs.Answers.{Fits}
use Rattle.mdi_write.proofs.Laying.{packet_length, not_long}
use Rattle.mdi_laws.specs.Typed.{Typed}
use Rattle.mdi_laws.specs.RoundTrips.{streams_for}
use Rattle.mdi_laws.proofs.Ignored.{Plain, number_left, place_left}
use Rattle.mdi_laws.proofs.Stood.{Stood, stood, value_stood, good_stood}
use Rattle.mdi_laws.proofs.Rows.{AllSuit, must, may, distinct_rows, sound_rows, find_row, missing_rows, length_rows}
use Rattle.mdi_laws.proofs.Values.{small, well, sdci_length, sdc_whole, sdc_size, sdc_most, time_most, sdc_ok, sdci_ok, bytes_ok, size_most, said_most, agreed_each, time_good, time_size, time_back}

module _ (r : Record) (ss : Streams) (ty : Typed r) (fits : Fits r ss) where
  abbrev got : List Item
  got = (cut_of (packet_of r ss)).items

  -- each value may stand in its row
  fit : AllSuit table (values_of r ss)
  fit =
      let n = not_long ss fits.short in
      let c = bytes_length 4 r.count in
      let f = channel.value_length_law r.fac in
      let s = sdc_most r ss ty fits in
      let d = sdci_length r ss ty fits in
      let k = (well r ss ty fits).most in
      let t = time_most r.time in
      let ec = ap (λ (x : ℕ). exactly 32 (8 * x)) c in
      let ef = ap (λ (x : ℕ). exactly 72 (8 * x)) f in
      let es = sdc_ok (length (block.sdc_bytes r.sdc)) (sdc_size r ss ty fits) in
      let ed = ap (λ (x : ℕ). sdci_bits (8 * x)) d ∙ sdci_ok r.description.count (well r ss ty fits).one k in (
        must _ _ opening (omega arith) (λ e. omega arith) refl,
        (
          must _ _ (bytes_of 4 r.count) (omega arith) (λ e. omega arith) ec,
          (
            must _ _ (fast.fac_bytes r.fac) (omega arith) (λ e. omega arith) ef,
            (
              may _ _ (block.sdc_bytes r.sdc) (omega arith) (λ z. es),
              (
                must _ _ (described.value_of r.description) (omega arith) (λ e. omega arith) ed,
                (
                  must _ _ (r.robustness ∷ []) (omega arith) (λ e. omega arith) refl,
                  (
                    may _ _ ss.s0 n.0 (λ z. bytes_ok (length ss.s0)),
                    (
                      may _ _ ss.s1 n.1 (λ z. bytes_ok (length ss.s1)),
                      (
                        may _ _ ss.s2 n.2 (λ z. bytes_ok (length ss.s2)),
                        (
                          may _ _ ss.s3 n.3 (λ z. bytes_ok (length ss.s3)),
                          (may _ _ (time_bytes r.time) (omega arith) (time_size r.time), tt),
                        ),
                      ),
                    ),
                  ),
                ),
              ),
            ),
          ),
        ),
      )

  distinct : Distinct (items_of r ss)
  unfolding items_of among same_name
  distinct = distinct_rows (names_of table) (values_of r ss) refl

  cut_is : cut_of (packet_of r ss) ≡ record { items = placed 0 (kept (items_of r ss)); stop = length (packet_of r ss) }
  unfolding packet_of items_of
  cut_is = cut_packet (kept (items_of r ss)) (kept_all Sound (items_of r ss) (sound_rows table (values_of r ss) refl fit))

  items_are : got ≡ placed 0 (kept (items_of r ss))
  items_are = ap (λ (c : Cut). c.items) cut_is

  -- what stands in a row is its value
  st : (k : ℕ) → k < length table → Stood (find (name_of k) got) (get_or (values_of r ss) k [])
  unfolding items_of among same_name
  st k h =
      stood (find (name_of k) got) (name_of k) (get_or (values_of r ss) k [])
      (ap (λ (js : List Item). bare (find (name_of k) js)) items_are
      ∙ find_written (name_of k) (items_of r ss) distinct
      ∙ ap (λ (x : Found). bare x) (find_row (names_of table) (values_of r ss) refl k h))

  -- ---- 1, 2 and 3
  short : length (packet_of r ss) ≤ longest
  short =
      let d = r.description in
      let l = packet_length r ss ty.slots (well r ss ty fits).most in
      let k = (well r ss ty fits).most in
      let g = agreed_each d ss fits.lengths in
      let m = (small r ss ty fits).description in
      let g0 = g.0 in
      let g1 = g.1 in
      let g2 = g.2 in
      let g3 = g.3 in
      let h0 = said_most d m 0 in
      let h1 = said_most d m 1 in
      let h2 = said_most d m 2 in
      let h3 = said_most d m 3 in
      let w = size_most (length (block.sdc_bytes r.sdc)) in
      let x = sdc_most r ss ty fits in
      let w0 = size_most (length ss.s0) in
      let w1 = size_most (length ss.s1) in
      let w2 = size_most (length ss.s2) in
      let w3 = size_most (length ss.s3) in
      let wt = size_most (length (time_bytes r.time)) in
      let t = time_most r.time in
      omega arith

  plain : Plain (packet_of r ss)
  plain =
      record {
        short = short;
        whole = (let e : (cut_of (packet_of r ss)).stop ≡ length (packet_of r ss) = ap (λ (c : Cut). c.stop) cut_is in omega arith);
        once = rw items_are (once_placed (kept (items_of r ss)) 0 (kept_distinct (items_of r ss) distinct));
      }

  -- ---- the rest
  mode_is : msc_mode got ≡ r.fac.msc
  unfolding msc_mode
  mode_is =
      ap (λ (v : List ℕ). (fast.fac_of v).msc) (value_stood (find fac got) (fast.fac_bytes r.fac) (st 2 (lit< tt)))
      ∙ ap (λ (f : Rattle.fac.specs.declared.Fac.Fac). f.msc) (channel.fac_back r.fac (small r ss ty fits).fac)

  described_is : described.described_by (described.value_of r.description) ≡ r.description
  described_is =
      descriptions.described_back r.description ty.slots (well r ss ty fits).most (small r ss ty fits).description (well r ss ty fits).behind

  fac_is : fast.fac_of (fast.fac_bytes r.fac) ≡ r.fac
  fac_is = channel.fac_back r.fac (small r ss ty fits).fac

  agrees_is : agrees got r.description ≡ true
  unfolding agrees
  agrees_is =
      let g = agreed_each r.description ss fits.lengths in
      rw (
        value_stood (find str0 got) ss.s0 (st 6 (lit< tt)),
        value_stood (find str1 got) ss.s1 (st 7 (lit< tt)),
        value_stood (find str2 got) ss.s2 (st 8 (lit< tt)),
        value_stood (find str3 got) ss.s3 (st 9 (lit< tt)),
        eq-eqb _ _ g.0,
        eq-eqb _ _ g.1,
        eq-eqb _ _ g.2,
        eq-eqb _ _ g.3,
      ) refl

  nothing_missing : missing got ≡ false
  unfolding missing
  nothing_missing = missing_rows got table (values_of r ss) st fit

  good_lengths : bad_length got ≡ false
  unfolding bad_length
  good_lengths = length_rows got table (values_of r ss) st fit

  opened : protocol opening ≡ true
  unfolding protocol same_name number_at big_of
  opened = refl

  known : known_mode (r.robustness ∷ []) ≡ true
  unfolding known_mode
  known = le-leb _ _ (small r ss ty fits).robustness

  good_values : bad_value got ≡ false
  unfolding bad_value
  good_values =
      rw (
        good_stood (find ptr got) opening protocol (st 0 (lit< tt)) (λ z. opened),
        good_stood (find robm got) (r.robustness ∷ []) known_mode (st 5 (lit< tt)) (λ z. known),
        good_stood (find tist got) (time_bytes r.time) on_time (st 10 (lit< tt)) (time_good r.time (small r ss ty fits).time),
      ) refl

  is_served : served (fast.fac_bytes r.fac) ≡ true
  unfolding served
  is_served = ap (λ (f : Rattle.fac.specs.declared.Fac.Fac). not (fast.not_served f)) fac_is ∙ ap not fits.served

  good_description : not (forms.ill_formed (msc_mode got) (described.described_by (described.value_of r.description))) ≡ true
  good_description =
      ap₂ (λ (m : ℕ) (d : Description). not (forms.ill_formed m d)) mode_is described_is ∙ ap not fits.formed

  free_items : refused_with (item_tests got) ≡ 0
  unfolding item_tests bad_fac bad_sdc unserved bad_description bad_streams
  free_items =
      accepted (item_tests got) (
        nothing_missing,
        (
          good_lengths,
          (
            good_values,
            (
              good_stood (find fac got) (fast.fac_bytes r.fac) fast.sealed (st 2 (lit< tt)) (λ z. channel.sealed_back r.fac),
              (
                good_stood (find sdc got) (block.sdc_bytes r.sdc) block.sealed (st 3 (lit< tt)) (λ z. blocks.sealed_back r.sdc (sdc_whole r ss ty fits)),
                (
                  good_stood (find fac got) (fast.fac_bytes r.fac) served (st 2 (lit< tt)) (λ z. is_served),
                  (
                    good_stood (find sdci got) (described.value_of r.description)
                        (λ v. not (forms.ill_formed (msc_mode got) (described.described_by v))) (st 4 (lit< tt)) (λ z. good_description),
                    (
                      good_stood (find sdci got) (described.value_of r.description)
                          (λ v. agrees got (described.described_by v)) (st 4 (lit< tt))
                          (λ z. ap (agrees got) described_is ∙ agrees_is),
                      tt,
                    ),
                  ),
                ),
              ),
            ),
          ),
        ),
      )

  -- what was written is accepted
  pub accepted_back : refused_with (tests_for (packet_of r ss)) ≡ 0
  accepted_back = number_left (packet_of r ss) plain ∙ free_items

  -- ---- the record
  count_is : number_at 4 (value_of (find dlfc got)) 0 ≡ r.count
  count_is =
      ap (λ (v : List ℕ). number_at 4 v 0) (value_stood (find dlfc got) (bytes_of 4 r.count) (st 1 (lit< tt)))
      ∙ whole 4 (bytes_of 4 r.count) (bytes_length 4 r.count)
      ∙ big_back 4 r.count ty.count

  record_is : record_of got ≡ r
  unfolding record_of
  record_is =
      rw (
        count_is,
        ap fast.fac_of (value_stood (find fac got) (fast.fac_bytes r.fac) (st 2 (lit< tt))) ∙ fac_is,
        ap block.sdc_of (value_stood (find sdc got) (block.sdc_bytes r.sdc) (st 3 (lit< tt))) ∙ blocks.sdc_back r.sdc (sdc_whole r ss ty fits),
        ap described.described_by (value_stood (find sdci got) (described.value_of r.description) (st 4 (lit< tt))) ∙ described_is,
        value_stood (find robm got) (r.robustness ∷ []) (st 5 (lit< tt)),
        time_back (find tist got) r.time (small r ss ty fits).time (st 10 (lit< tt)),
      ) refl

  -- B2: reading what was written gives the record back
  pub read_back : read_for (packet_of r ss) ≡ record { number = 0; place = 0; content = r }
  unfolding read_for
  read_back = rw (accepted_back, place_left (packet_of r ss) plain, record_is) refl

  -- and the four streams
  pub streams_back : streams_for (packet_of r ss) ≡ ss
  unfolding stream_for stream_of
  streams_back =
      rw (
        accepted_back,
        value_stood (find str0 got) ss.s0 (st 6 (lit< tt)),
        value_stood (find str1 got) ss.s1 (st 7 (lit< tt)),
        value_stood (find str2 got) ss.s2 (st 8 (lit< tt)),
        value_stood (find str3 got) ss.s3 (st 9 (lit< tt)),
      ) refl
