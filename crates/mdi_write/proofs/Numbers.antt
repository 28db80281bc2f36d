-- Why a packet is not written, and what the writer answers, by the way taken through its tests. Assumes nothing.
use Prim.Native.Nat.{ℕ, ◌≤◌, ◌<◌}
use mathlib.Core.Bool.{Bool, true, false, not, ◌||◌, ◌&&◌}
use mathlib.Core.Path.{◌≡◌, refl, sym, ap, ◌∙◌}
use mathlib.Core.List.{List}
use borrow.Author.Tests.{lt-ltb, le-ltb, ne_eqb, ltb-false}
use lib.Dec.{ltb, eqb, lit<}
use lib.ListN.{length}
use Rattle.laws.specs.Limits.{longest}
use Rattle.laws.specs.Refuse.{refused_with}
use Rattle.laws.specs.Written.{written}
use Rattle.laws.proofs.Flags.{or_false}
use Rattle.laws.proofs.Refuse.{free}
use Rattle.description.specs.WellFormed as described
use Rattle.fac.specs.Channel as fast
use Rattle.sdc.specs.Block as block
use Rattle.record.specs.declared.Record.{Record}
use Rattle.mdi_write.specs.Packet.{Streams, packet_of}
use Rattle.description.specs.Bytes.{said_of}
use Rattle.mdi_write.specs.Answers.{any_long, bad_time, is_too_large, agreed, write_tests, write_number, write_for, out_for, Fits}
use Rattle.mdi_write.specs.Rows.{size_for, Tested}
use Rattle.mdi_write.proofs.Values.{few}
use Rattle.mdi_write.proofs.Laying.{packet_length, not_long}

pub large_is : (r : Record) (a b c d : Bool) → a ≡ fast.is_too_large r.fac → b ≡ block.is_too_large r.sdc → c ≡ described.is_too_large r.description
    → d ≡ bad_time r.time → (a || b || c || ltb 3 r.robustness || d) ≡ is_too_large r
unfolding is_too_large
large_is r a b c d ea eb ec ed = rw (ea, eb, ec, ed)

module _ (r : Record) (ss : Streams) (room : ℕ) (g : Bool)
    (eg : g ≡ (ltb longest (length ss.s0) || ltb longest (length ss.s1) || ltb longest (length ss.s2) || ltb longest (length ss.s3))) where
  long_is : any_long ss ≡ g
  unfolding any_long
  long_is = sym eg

  pub w_1 : g ≡ true → 1 ≡ refused_with (write_tests r ss room)
  unfolding write_tests
  w_1 h = rw (long_is, h)

  module _ (g0 : g ≡ false) (o : Bool) (eo : o ≡ block.over_long r.sdc) where
    pub w_5 : o ≡ true → 5 ≡ refused_with (write_tests r ss room)
    unfolding write_tests
    w_5 h = rw (long_is, g0, ← eo, h)

    module _ (o0 : o ≡ false) (t : Bool) (et : t ≡ is_too_large r) where
      pub w_6 : t ≡ true → 6 ≡ refused_with (write_tests r ss room)
      unfolding write_tests
      w_6 h = rw (long_is, g0, ← eo, o0, ← et, h)

      module _ (t0 : t ≡ false) (u : Bool) (eu : u ≡ fast.not_served r.fac) where
        pub w_9 : u ≡ true → 9 ≡ refused_with (write_tests r ss room)
        unfolding write_tests
        w_9 h = rw (long_is, g0, ← eo, o0, ← et, t0, ← eu, h)

        module _ (u0 : u ≡ false) (i : Bool) (ei : i ≡ described.ill_formed r.fac.msc r.description) where
          pub w_10 : i ≡ true → 10 ≡ refused_with (write_tests r ss room)
          unfolding write_tests
          w_10 h = rw (long_is, g0, ← eo, o0, ← et, t0, ← eu, u0, ← ei, h)

          module _ (i0 : i ≡ false) (b : Bool)
              (eb : b ≡ (eqb (length ss.s0) (said_of r.description 0) && eqb (length ss.s1) (said_of r.description 1) && eqb (length ss.s2) (said_of r.description 2) && eqb (length ss.s3) (said_of r.description 3))) where
            agreed_is : agreed r.description ss ≡ b
            unfolding agreed
            agreed_is = sym eb

            pub w_11 : not b ≡ true → 11 ≡ refused_with (write_tests r ss room)
            unfolding write_tests
            w_11 h = rw (long_is, g0, ← eo, o0, ← et, t0, ← eu, u0, ← ei, i0, agreed_is, h)

            pub size_ready : (r.description.count ≤ 4) × (length ss.s0 ≤ 65528) × (length ss.s1 ≤ 65528) × (length ss.s2 ≤ 65528) × (length ss.s3 ≤ 65528)
            size_ready = let n = not_long ss (long_is ∙ g0) in (few r.description r.fac.msc (sym ei ∙ i0), n.0, n.1, n.2, n.3)

            module _ (b0 : not b ≡ false) (four : length r.description.stream ≡ 4) (n : ℕ)
                (en : n ≡ size_for r (length ss.s0) (length ss.s1) (length ss.s2) (length ss.s3)) where
              size : length (packet_of r ss) ≡ n
              size = packet_length r ss four size_ready.0 ∙ sym en

              pub w_late : room < n → 1 ≡ refused_with (write_tests r ss room)
              unfolding write_tests
              w_late h = rw (long_is, g0, ← eo, o0, ← et, t0, ← eu, u0, ← ei, i0, agreed_is, b0, size, lt-ltb _ _ h)

              pub w_0 : n ≤ room → 0 ≡ refused_with (write_tests r ss room)
              unfolding write_tests
              w_0 h = rw (long_is, g0, ← eo, o0, ← et, t0, ← eu, u0, ← ei, i0, agreed_is, b0, size, le-ltb _ _ h)

-- ---- what is accepted fits
pub fits_of : (r : Record) (ss : Streams) (room : ℕ) → refused_with (write_tests r ss room) ≡ 0 → Fits r ss × (length (packet_of r ss) ≤ room)
unfolding write_tests
fits_of r ss room e =
    let f = free (write_tests r ss room) (lit< tt, (lit< tt, (lit< tt, (lit< tt, (lit< tt, (lit< tt, (lit< tt, tt))))))) e in (
      record {
        short = f.0;
        sdc = f.1.0;
        fields = f.1.1.0;
        served = f.1.1.1.0;
        formed = f.1.1.1.1.0;
        lengths = borrow.Author.Tests.not-false _ f.1.1.1.1.1.0;
      },
      ltb-false _ _ f.1.1.1.1.1.1.0,
    )

-- each field by itself
pub record Small (r : Record) : Type 0 where
  pub fac : fast.is_too_large r.fac ≡ false
  pub sdc : block.is_too_large r.sdc ≡ false
  pub description : described.is_too_large r.description ≡ false
  pub robustness : r.robustness ≤ 3
  pub time : bad_time r.time ≡ false

pub small_of : (r : Record) → is_too_large r ≡ false → Small r
unfolding is_too_large
small_of r e =
    let a = or_false (fast.is_too_large r.fac || block.is_too_large r.sdc || described.is_too_large r.description || ltb 3 r.robustness) (bad_time r.time) e in
    let b = or_false (fast.is_too_large r.fac || block.is_too_large r.sdc || described.is_too_large r.description) (ltb 3 r.robustness) a.0 in
    let c = or_false (fast.is_too_large r.fac || block.is_too_large r.sdc) (described.is_too_large r.description) b.0 in
    let d = or_false (fast.is_too_large r.fac) (block.is_too_large r.sdc) c.0 in
    record { fac = d.0; sdc = d.1; description = c.1; robustness = ltb-false _ _ b.1; time = a.1 }

pub tested_of : (r : Record) (ss : Streams) → Fits r ss → Tested r
tested_of r ss f = let s = small_of r f.fields in record { fits = s.fac; served = f.served; small = s.description; formed = f.formed }

module _ (r : Record) (ss : Streams) (out : List ℕ) where
  pub write_refused : (n : ℕ) → n ≡ refused_with (write_tests r ss (length out)) → (n ≡ 0 → ⊥)
      → (record { number = n; length = 0 } ≡ write_for r ss (length out)) × (out ≡ out_for r ss out)
  unfolding write_for out_for write_number
  write_refused n e z = rw (← e, ne_eqb n 0 z) (refl, refl)

  pub write_done : 0 ≡ refused_with (write_tests r ss (length out)) → (k : ℕ) (d : List ℕ)
      → (k ≡ length (packet_of r ss)) × (d ≡ written out 0 (packet_of r ss))
      → (record { number = 0; length = k } ≡ write_for r ss (length out)) × (d ≡ out_for r ss out)
  unfolding write_for out_for write_number
  write_done e k d h = rw (← e) (ap (λ (m : ℕ). record { number = 0; length = m }) h.0, h.1)
