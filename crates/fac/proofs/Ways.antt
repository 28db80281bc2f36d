-- What the calls answer and leave, by the way taken through their tests. Assumes nothing.
use Prim.Native.Nat.{ℕ, ◌+◌, ◌*◌, ◌≤◌, ◌<◌}
use mathlib.Core.Bool.{Bool, true, false, not}
use mathlib.Core.Path.{◌≡◌, refl, sym, ap, ◌∙◌}
use mathlib.Core.List.{List, [], ◌∷◌, ◌++◌}
use native.Mathlib.Omega.{arith}
use borrow.Author.Tests.{lt-ltb, le-ltb, le-leb, lt-leb, eq-eqb, ne_eqb, ltb-false}
use lib.Dec.{ltb, eqb}
use lib.ListN.{length, get_or, take, drop, set}
use Rattle.laws.specs.Big.{bytes_of}
use Rattle.laws.specs.Fields.{number_of}
use Rattle.laws.specs.Pick.{pick}
use Rattle.laws.specs.Refuse.{refused_with}
use Rattle.laws.specs.Written.{written}
use Rattle.laws.proofs.Big.{bytes_length}
use Rattle.laws.proofs.Written.{front, store_next}
use Rattle.fields.specs.Numbers.{put_at}
use Rattle.fields.proofs.Writing.{put_in}
use Rattle.crc.specs.Crc.{crc_of}
use Rattle.fac.specs.declared.Fac.{Fac}
use Rattle.fac.specs.Channel.{widths, in_order, bits_of, sealed8, fac_bytes, fac_of, sealed, is_too_large, not_served}
use Rattle.fac.specs.Bounds.{ChannelFits, ServiceFits}
use Rattle.fac.specs.Answers.{no_fac, read_tests, announced, read_for, write_tests, write_number, write_for, out_for}
use Rattle.fac.proofs.Fits.{channel, service}

-- ---- the seal
module _ (v : List ℕ) where
  pub seal_short : length v < 9 → false ≡ sealed v
  unfolding sealed
  seal_short h = rw (lt-leb _ _ h)

  pub seal_is : (w : ℕ) → 9 ≤ length v → w ≡ crc_of 8 0x1d (take 8 v) → eqb w (get_or v 8 0) ≡ sealed v
  unfolding sealed
  seal_is w h e = rw (le-leb _ _ h, e)

-- ---- read
module _ (v : List ℕ) where
  pub read_1 : 65528 < length v → 1 ≡ refused_with (read_tests v)
  unfolding read_tests
  read_1 h = rw (lt-ltb _ _ h)

  pub read_5 : length v ≤ 65528 → (length v ≡ 9 → ⊥) → 5 ≡ refused_with (read_tests v)
  unfolding read_tests
  read_5 s h = simp (le-ltb _ _ s, ne_eqb _ _ h)

  module _ (s : length v ≤ 65528) (l : length v ≡ 9) (b : Bool) (eb : b ≡ sealed v) where
    pub read_7 : not b ≡ true → 7 ≡ refused_with (read_tests v)
    unfolding read_tests
    read_7 h = simp (le-ltb _ _ s, eq-eqb _ _ l, ← eb, h)

    module _ (k : not b ≡ false) (f : Fac) (ef : f ≡ fac_of v) (u : Bool) (eu : u ≡ not_served f) where
      pub read_9 : u ≡ true → 9 ≡ refused_with (read_tests v)
      unfolding read_tests
      read_9 h = simp (le-ltb _ _ s, eq-eqb _ _ l, ← eb, k, ← ef, ← eu, h)

      pub read_0 : u ≡ false → 0 ≡ refused_with (read_tests v)
      unfolding read_tests
      read_0 h = simp (le-ltb _ _ s, eq-eqb _ _ l, ← eb, k, ← ef, ← eu, h)

pub ruleset reading = (read_1, read_5, read_7, read_9, read_0)

module _ (v : List ℕ) where
  pub read_refused : (n : ℕ) → n ≡ refused_with (read_tests v) → (n ≡ 0 → ⊥) → record { number = n; fac = no_fac } ≡ read_for v
  unfolding read_for announced
  read_refused n e z = rw (← e, ne_eqb n 0 z)

  pub read_done : 0 ≡ refused_with (read_tests v) → (f : Fac) → f ≡ fac_of v → record { number = 0; fac = f } ≡ read_for v
  unfolding read_for announced
  read_done e f h = rw (← e, h)

-- ---- write
module _ (f : Fac) (room : ℕ) (t : Bool) (et : t ≡ is_too_large f) where
  pub write_6 : t ≡ true → 6 ≡ refused_with (write_tests f room)
  unfolding write_tests
  write_6 h = rw (← et, h)

  module _ (k : t ≡ false) (u : Bool) (eu : u ≡ not_served f) where
    pub write_9 : u ≡ true → 9 ≡ refused_with (write_tests f room)
    unfolding write_tests
    write_9 h = rw (← et, k, ← eu, h)

    module _ (s : u ≡ false) where
      pub write_1 : room < 9 → 1 ≡ refused_with (write_tests f room)
      unfolding write_tests
      write_1 h = rw (← et, k, ← eu, s, lt-ltb _ _ h)

      pub write_0 : 9 ≤ room → 0 ≡ refused_with (write_tests f room)
      unfolding write_tests
      write_0 h = rw (← et, k, ← eu, s, le-ltb _ _ h)

pub ruleset writing = (write_6, write_9, write_1, write_0)

-- number 0: what was tested fits
first : (a b c : Bool) (k l m : ℕ) → pick a (1 + k) (pick b (1 + l) (pick c (1 + m) 0)) ≡ 0 → (a ≡ false) × (b ≡ false) × (c ≡ false)
first true b c k l m e = absurd (omega arith)
first false true c k l m e = absurd (omega arith)
first false false true k l m e = absurd (omega arith)
first false false false k l m e = (refl, refl, refl)

pub writable : (f : Fac) (room : ℕ) → refused_with (write_tests f room) ≡ 0 → (is_too_large f ≡ false) × (not_served f ≡ false) × (9 ≤ room)
unfolding write_tests
writable f room e =
    let p = first (is_too_large f) (not_served f) (ltb room 9) 5 8 0 e in
    (p.0, p.1, ltb-false _ _ p.2)

pub ready : (f : Fac) (room : ℕ) → 0 ≡ refused_with (write_tests f room) → ChannelFits f × ServiceFits f × (9 ≤ room)
ready f room e = let p = writable f room (sym e) in (channel f p.0, service f p.0, p.2)

module _ (f : Fac) (out : List ℕ) where
  pub write_refused : (n : ℕ) → n ≡ refused_with (write_tests f (length out)) → (n ≡ 0 → ⊥)
      → (record { number = n; length = 0 } ≡ write_for f (length out)) × (out ≡ out_for f out)
  unfolding write_for out_for write_number
  write_refused n e z = rw (← e, ne_eqb n 0 z) (refl, refl)

  pub write_done : 0 ≡ refused_with (write_tests f (length out)) → (d : List ℕ) → d ≡ written out 0 (fac_bytes f)
      → (record { number = 0; length = 9 } ≡ write_for f (length out)) × (d ≡ out_for f out)
  unfolding write_for out_for write_number
  write_done e d h = rw (← e) (refl, h)

-- ---- the nine bytes
pub two_halves : (f : Fac) (a b : ℕ) → a ≡ number_of (take 10 widths) (take 10 (in_order f)) → b ≡ number_of (drop 10 widths) (drop 10 (in_order f))
    → a * 17592186044416 + b ≡ bits_of f
unfolding bits_of
two_halves f a b ea eb = omega arith

pub sealed_on : (f : Fac) (out d : List ℕ) (x w : ℕ) → 9 ≤ length out → x ≡ bits_of f → d ≡ put_at 8 out 0 x → w ≡ crc_of 8 0x1d (take 8 d)
    → set d 8 w ≡ written out 0 (fac_bytes f)
unfolding fac_bytes sealed8
sealed_on f out d x w h ex ed ew =
    let s : List ℕ = bytes_of 8 (bits_of f) in
    let l : length s ≡ 8 = bytes_length 8 (bits_of f) in
    let q : d ≡ written out 0 s = ed ∙ ap (put_at 8 out 0) ex ∙ put_in 8 out 0 (bits_of f) (omega arith) in
    let c : w ≡ crc_of 8 0x1d s = ew ∙ ap (λ (t : List ℕ). crc_of 8 0x1d (take 8 t)) q ∙ ap (crc_of 8 0x1d) (front out s 8 l) in
    store_next out d 0 s 8 w l (omega arith) q ∙ ap (λ (k : ℕ). written out 0 (s ++ (k ∷ []))) c
