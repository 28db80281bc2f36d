-- What the calls answer and leave, by the way taken through their tests. Assumes nothing.
use Prim.Native.Nat.{ℕ, ◌+◌, ◌<◌, ◌≤◌}
use mathlib.Core.Bool.{Bool, true, false, ◌||◌}
use mathlib.Core.Path.{◌≡◌, refl, sym, ap, ◌∙◌}
use mathlib.Core.List.{List}
use native.Mathlib.Omega.{arith}
use borrow.Author.Tests.{le-leb, lt-leb, le-ltb, lt-ltb, eq-eqb, ne_eqb}
use lib.Dec.{eqb, ltb}
use lib.ListN.{length}
use lib.Seq.{take_all}
use Rattle.laws.specs.Big.{big_of, number_at}
use Rattle.laws.specs.Refuse.{refused_with}
use Rattle.fields.specs.Numbers.{put_at}
use Rattle.fields.proofs.Reading.{number_in}
use Rattle.fields.proofs.Writing.{put_in}
use Rattle.clock.specs.declared.Stamp.{Stamp}
use Rattle.clock.specs.Answers.{no_stamp}
use Rattle.clock.specs.Stamps.{bits_of, field_tests, stamp_bytes, encode_tests, encode_number, encoded_for, output_for, stamp_from, stamp_of, late, decode_tests, stamped, decoded_for}
use Rattle.clock.specs.Next.{elapsed, later, next_tests, next_for}
use Rattle.clock.specs.Follows.{one_more, time_follows, utco_follows, stamp_follows, follows_tests, follows_for}
use Rattle.clock.proofs.Fit.{free_fields}
use Rattle.laws.proofs.Join.{behind, before}

-- ---- encode

module _ (t : Stamp) (out : List ℕ) where
  pub encode_fields : (n : ℕ) → n ≡ refused_with (field_tests t) → (n ≡ 0 → ⊥)
      → (record { number = n; length = 0 } ≡ encoded_for t out) × (out ≡ output_for t out)
  unfolding encode_tests encode_number encoded_for output_for
  encode_fields n e h =
      let k : encode_number t out ≡ n = before (field_tests t) _ (λ z. h (e ∙ z)) ∙ sym e in
      simp (k, ne_eqb n 0 h) (refl, refl)

  pub encode_short : refused_with (field_tests t) ≡ 0 → length out < 8
      → (record { number = 1; length = 0 } ≡ encoded_for t out) × (out ≡ output_for t out)
  unfolding encode_tests encode_number encoded_for output_for
  encode_short e h =
      let k : encode_number t out ≡ 1 = behind (field_tests t) _ (free_fields t e) ∙ simp (lt-ltb _ _ h) in
      simp k (refl, refl)

  pub encode_done : refused_with (field_tests t) ≡ 0 → 8 ≤ length out → (x : ℕ) → x ≡ bits_of t → (d : List ℕ) → d ≡ put_at 8 out 0 x
      → (record { number = 0; length = 8 } ≡ encoded_for t out) × (d ≡ output_for t out)
  unfolding encode_tests encode_number encoded_for output_for stamp_bytes
  encode_done e h x b d q =
      let k : encode_number t out ≡ 0 = behind (field_tests t) _ (free_fields t e) ∙ simp (le-ltb _ _ h) in
      simp k (refl, q ∙ ap (put_at 8 out 0) b ∙ put_in 8 out 0 (bits_of t) h)

-- ---- decode

-- a number's bytes and nothing more
pub whole : (n : ℕ) (s : List ℕ) → length s ≡ n → number_at n s 0 ≡ big_of s
whole n s l = number_in n s 0 (omega arith) ∙ ap big_of (take_all n s (omega arith))

module _ (value : List ℕ) where
  pub decode_long : 65528 < length value → record { number = 1; stamp = no_stamp } ≡ decoded_for value
  unfolding decode_tests stamped decoded_for
  decode_long h = simp (lt-ltb _ _ h)

  pub decode_length : length value ≤ 65528 → (length value ≡ 8 → ⊥) → record { number = 5; stamp = no_stamp } ≡ decoded_for value
  unfolding decode_tests stamped decoded_for
  decode_length s h = simp (le-ltb _ _ s, ne_eqb _ _ h)

  module _ (l : length value ≡ 8) (x : ℕ) (ex : x ≡ number_at 8 value 0) (t : Stamp) (et : t ≡ stamp_from x) where
    read : t ≡ stamp_of value
    unfolding stamp_of
    read = et ∙ ap stamp_from (ex ∙ whole 8 value l)

    short : ltb 65528 (length value) ≡ false
    short = let h : length value ≤ 65528 = omega arith in le-ltb _ _ h

    pub decode_late : 999 < t.milliseconds → record { number = 6; stamp = no_stamp } ≡ decoded_for value
    unfolding decode_tests late stamped decoded_for
    decode_late h = simp (short, eq-eqb _ _ l, ← read, lt-ltb _ _ h)

    pub decode_done : t.milliseconds ≤ 999 → record { number = 0; stamp = t } ≡ decoded_for value
    unfolding decode_tests late stamped decoded_for
    decode_done h = simp (short, eq-eqb _ _ l, ← read, le-ltb _ _ h)

-- ---- next

module _ (t : Stamp) where
  pub next_fields : (n : ℕ) → n ≡ refused_with (field_tests t) → (n ≡ 0 → ⊥) → record { number = n; stamp = no_stamp } ≡ next_for t
  unfolding next_tests stamped next_for
  next_fields n e h =
      let k : refused_with (next_tests t) ≡ n = before (field_tests t) _ (λ z. h (e ∙ z)) ∙ sym e in
      simp (k, ne_eqb n 0 h)

  module _ (e : refused_with (field_tests t) ≡ 0) (s : Stamp) (es : s ≡ later t) where
    pub next_none : 1099511627776 ≤ s.seconds → record { number = 18; stamp = no_stamp } ≡ next_for t
    unfolding next_tests stamped next_for
    next_none h =
        let k : refused_with (next_tests t) ≡ 18 = behind (field_tests t) _ (free_fields t e) ∙ simp (← es, le-leb _ _ h) in
        simp k

    pub next_done : s.seconds < 1099511627776 → record { number = 0; stamp = s } ≡ next_for t
    unfolding next_tests stamped next_for
    next_done h =
        let k : refused_with (next_tests t) ≡ 0 = behind (field_tests t) _ (free_fields t e) ∙ simp (← es, lt-leb _ _ h) in
        simp (k, es)

-- ---- follows

-- the UTCO is the same or one more, and then that or one less
module _ (a b : Stamp) (p : Bool) where
  abbrev pub Near : Type 0
  Near = p ≡ (eqb b.utco a.utco || eqb b.utco (one_more a.utco))

  pub near_same : b.utco ≡ a.utco → p ≡ eqb b.utco a.utco → Near
  near_same h e = e ∙ eq-eqb _ _ h ∙ sym (ap (λ (c : Bool). c || eqb b.utco (one_more a.utco)) (eq-eqb _ _ h))

  pub near_more : (x : ℕ) → x ≡ one_more a.utco → (b.utco ≡ a.utco → ⊥) → p ≡ eqb b.utco x → Near
  near_more x ex h e = e ∙ ap (eqb b.utco) ex ∙ sym (ap (λ (c : Bool). c || eqb b.utco (one_more a.utco)) (ne_eqb _ _ h))

  pub near_follows : Near → p ≡ true → p ≡ utco_follows a b
  unfolding utco_follows
  near_follows n e = e ∙ sym (ap (λ (c : Bool). c || eqb a.utco (one_more b.utco)) (sym n ∙ e))

  pub far_follows : Near → p ≡ false → (y : ℕ) → y ≡ one_more b.utco → eqb a.utco y ≡ utco_follows a b
  unfolding utco_follows
  far_follows n e y ey = ap (eqb a.utco) ey ∙ sym (ap (λ (c : Bool). c || eqb a.utco (one_more b.utco)) (sym n ∙ e))

module _ (a b : Stamp) where
  pub follows_first : (n : ℕ) → n ≡ refused_with (field_tests a) → (n ≡ 0 → ⊥) → record { number = n; yes = false } ≡ follows_for a b
  unfolding follows_tests follows_for
  follows_first n e h =
      let k : refused_with (follows_tests a b) ≡ n = before (field_tests a) _ (λ z. h (e ∙ z)) ∙ sym e in
      simp (k, ne_eqb n 0 h)

  module _ (e : refused_with (field_tests a) ≡ 0) where
    second : refused_with (follows_tests a b) ≡ refused_with (field_tests b)
    unfolding follows_tests
    second = behind (field_tests a) (field_tests b) (free_fields a e)

    pub follows_second : (n : ℕ) → n ≡ refused_with (field_tests b) → (n ≡ 0 → ⊥) → record { number = n; yes = false } ≡ follows_for a b
    unfolding follows_for
    follows_second n q h = simp (second, ← q, ne_eqb n 0 h)

    module _ (q : refused_with (field_tests b) ≡ 0) (x y : ℕ) (ex : x ≡ elapsed b) (ey : y ≡ elapsed a) where
      pub follows_time : x ≡ y + 400 → (u : Bool) → u ≡ utco_follows a b → record { number = 0; yes = u } ≡ follows_for a b
      unfolding follows_for stamp_follows time_follows
      follows_time h u eu = simp (second, q, ← ex, ← ey, eq-eqb _ _ h, eu)

      pub follows_never : (x ≡ y + 400 → ⊥) → record { number = 0; yes = eqb x (y + 400) } ≡ follows_for a b
      unfolding follows_for stamp_follows time_follows
      follows_never h = simp (second, q, ← ex, ← ey, ne_eqb _ _ h)
