-- A packet written: its stores one behind the other, and what `write` answers. Assumes nothing.
use mathlib.Core.Path.{◌≡◌, refl, sym, ap, ◌∙◌}
use mathlib.Core.List.{List, [], ◌∷◌, ◌++◌, append_assoc}
use mathlib.Core.Bool.{Bool, true, false}
use Prim.Native.Nat.{ℕ, ◌+◌, ◌-◌, ◌≤◌, ◌<◌}
use native.Mathlib.Omega.{arith}
use borrow.Author.Tests.{eq-eqb, ne_eqb, lt-ltb, le-ltb, le-leb, eqb-false, ltb-false}
use lib.Dec.{ltb, lit<}
use lib.ListN.{length, take, drop, set, replicate, length-append, length-replicate}
use lib.Seq.{take_at}
use mir.Val.{bool_byte as from_bool}
use Rattle.laws.specs.Pick.{pick}
use Rattle.laws.specs.Refuse.{refused_with}
use Rattle.laws.specs.Written.{written}
use Rattle.laws.specs.Big.{bytes_of}
use Rattle.laws.proofs.Refuse.{free}
use Rattle.laws.proofs.Written.{set_written, store_next, write_next, written_length}
use Rattle.crc.specs.Crc.{crc_of}
use Rattle.fields.specs.Numbers.{put_at}
use Rattle.moves.specs.Moves.{placed}
use Rattle.moves.proofs.Turns.{placed_is}
use Rattle.packet.specs.Packet.{packet_of, flag, head_of, data_of, plain_of, sealed, encode}
use Rattle.packet.specs.Calls.{write_tests, write_number_for, write_for, out_for}
use Rattle.moves.specs.Wrote.{Wrote}
use Rattle.packet.proofs.Checks.{from_start}

-- a flag as a number
pub flag_is : (b : Bool) → (from_bool b ≡ flag b) × (flag b ≤ 1)
flag_is true = (refl, omega arith)
flag_is false = (refl, omega arith)

pub data_length : (p : ℕ) (d : List ℕ) → length d ≤ p → length (data_of p d) ≡ p
unfolding data_of
data_length p d l = go (ltb (length d) p) refl
  where
    go : (b : Bool) → ltb (length d) p ≡ b → length (pick b (length d ∷ (d ++ replicate (p - 1 - length d) 0)) d) ≡ p
    go true e =
        let h : length d < p = borrow.Author.Tests.ltb-true _ _ e in
        let z : List ℕ = replicate (p - 1 - length d) 0 in
        omega (arith, length-append d z, length-replicate {A = ℕ} (p - 1 - length d) 0)
    go false e = let h : p ≤ length d = ltb-false _ _ e in omega arith

-- a placing behind what was written
placed_next : (out e xs ys : List ℕ) (n : ℕ) → e ≡ written out 0 xs → n ≡ length xs → n + length ys ≤ length out → placed e n ys ≡ written out 0 (xs ++ ys)
placed_next out e xs ys n q ln h =
    let f : 0 + length xs ≤ length out = omega arith in
    let le : length e ≡ length out = ap length q ∙ written_length out 0 xs f in
    placed_is e n ys (omega arith) ∙ write_next out e 0 xs ys n (omega arith) (omega arith) q

module _ (p h : ℕ) (d out : List ℕ) (room : p + 3 ≤ length out) where
  -- fewer than p useful bytes: header, count, the bytes, zeros
  pub plain_short : length d < p → (e f : List ℕ) (m : ℕ) → m ≡ p - 1 - length d → e ≡ placed (set (set out 0 h) 1 (length d)) 2 d
      → f ≡ placed e (2 + length d) (replicate m 0) → f ≡ written out 0 (h ∷ data_of p d)
  unfolding data_of
  plain_short l e f m em pe pf =
      let z : List ℕ = replicate m 0 in
      let lz : length z ≡ m = length-replicate {A = ℕ} m 0 in
      let s0 : set out 0 h ≡ written out 0 (h ∷ []) = set_written out 0 h (omega arith) in
      let s1 : set (set out 0 h) 1 (length d) ≡ written out 0 (h ∷ length d ∷ []) = store_next out (set out 0 h) 0 (h ∷ []) 1 (length d) refl (omega arith) s0 in
      let s2 : e ≡ written out 0 ((h ∷ length d ∷ []) ++ d) =
      pe ∙ placed_next out (set (set out 0 h) 1 (length d)) (h ∷ length d ∷ []) d 2 s1 refl (omega arith) in
      let s3 : f ≡ written out 0 (((h ∷ length d ∷ []) ++ d) ++ z) =
      pf ∙ placed_next out e ((h ∷ length d ∷ []) ++ d) z (2 + length d) s2 (omega arith) (omega arith) in
      rw (lt-ltb (length d) p l, ← em) (s3 ∙ ap (written out 0) (append_assoc (h ∷ length d ∷ []) d z))

  pub plain_full : length d ≤ p → p ≤ length d → (e : List ℕ) → e ≡ placed (set out 0 h) 1 d → e ≡ written out 0 (h ∷ data_of p d)
  unfolding data_of
  plain_full l g e pe =
      let s0 : set out 0 h ≡ written out 0 (h ∷ []) = set_written out 0 h (omega arith) in
      rw (le-ltb (length d) p g) (pe ∙ placed_next out (set out 0 h) (h ∷ []) d 1 s0 refl (omega arith))

  -- the check word behind them
  pub seal : length d ≤ p → (e f : List ℕ) (w : ℕ) → e ≡ written out 0 (h ∷ data_of p d) → w ≡ crc_of 16 0x1021 (take (p + 1 - 0) e)
      → f ≡ put_at 2 e (p + 1) w → f ≡ written out 0 (sealed (h ∷ data_of p d))
  unfolding sealed put_at written
  seal l e f w pe pw pf =
      let s : List ℕ = h ∷ data_of p d in
      let ls : length s ≡ p + 1 = let k = data_length p d l in omega arith in
      let le : length e ≡ length out = ap length pe ∙ written_length out 0 s (omega arith) in
      let t : take (p + 1) e ≡ s = ap (take (p + 1)) pe ∙ take_at s (drop (0 + length s) out) (p + 1) ls in
      let x : w ≡ crc_of 16 0x1021 s = from_start e (p + 1) w pw ∙ ap (crc_of 16 0x1021) t in
      pf
      ∙ ap (λ (b : Bool). pick b (written e (p + 1) (bytes_of 2 w)) e) (le-leb (p + 1 + 2) (length e) (omega arith))
      ∙ write_next out e 0 s (bytes_of 2 w) (p + 1) (omega arith) (omega arith) pe
      ∙ ap (λ (v : ℕ). written out 0 (s ++ bytes_of 2 v)) x

-- ---- the refusals, by the way taken through the tests
module _ (p id index n room : ℕ) where
  pub no_p : p ≡ 0 → 13 ≡ refused_with (write_tests p id index n room)
  unfolding write_tests
  no_p h = simp (eq-eqb _ _ h)

  pub over_p : (p ≡ 0 → ⊥) → 255 < p → 13 ≡ refused_with (write_tests p id index n room)
  unfolding write_tests
  over_p a h = simp (ne_eqb _ _ a, lt-ltb _ _ h)

  module _ (a : p ≡ 0 → ⊥) (b : p ≤ 255) where
    pub over_n : p < n → 1 ≡ refused_with (write_tests p id index n room)
    unfolding write_tests
    over_n h = simp (ne_eqb _ _ a, le-ltb _ _ b, lt-ltb _ _ h)

    module _ (c : n ≤ p) where
      pub over_id : 3 < id → 6 ≡ refused_with (write_tests p id index n room)
      unfolding write_tests
      over_id h = simp (ne_eqb _ _ a, le-ltb _ _ b, le-ltb _ _ c, lt-ltb _ _ h)

      module _ (d : id ≤ 3) where
        pub over_index : 7 < index → 6 ≡ refused_with (write_tests p id index n room)
        unfolding write_tests
        over_index h = simp (ne_eqb _ _ a, le-ltb _ _ b, le-ltb _ _ c, le-ltb _ _ d, lt-ltb _ _ h)

        module _ (e : index ≤ 7) where
          pub no_room : room < p + 3 → 1 ≡ refused_with (write_tests p id index n room)
          unfolding write_tests
          no_room h = simp (ne_eqb _ _ a, le-ltb _ _ b, le-ltb _ _ c, le-ltb _ _ d, le-ltb _ _ e, lt-ltb _ _ h)

          pub all_right : p + 3 ≤ room → 0 ≡ refused_with (write_tests p id index n room)
          unfolding write_tests
          all_right h = simp (ne_eqb _ _ a, le-ltb _ _ b, le-ltb _ _ c, le-ltb _ _ d, le-ltb _ _ e, le-ltb _ _ h)

-- what they establish
pub record Writable (p id index n room : ℕ) : Type 0 where
  pub low : 1 ≤ p
  pub high : p ≤ 255
  pub short : n ≤ p
  pub id_in : id < 4
  pub index_in : index < 8
  pub fits : p + 3 ≤ room

pub writable : (p id index n room number : ℕ) → number ≡ refused_with (write_tests p id index n room) → number ≡ 0 → Writable p id index n room
unfolding write_tests
writable p id index n room number q z =
    let t = free (write_tests p id index n room) (lit< tt, (lit< tt, (lit< tt, (lit< tt, (lit< tt, (lit< tt, tt)))))) (sym q ∙ z) in
    let a : p ≡ 0 → ⊥ = eqb-false p 0 t.0 in
    let d : id ≤ 3 = ltb-false 3 id t.1.1.1.0 in
    let e : index ≤ 7 = ltb-false 7 index t.1.1.1.1.0 in
    record {
      low = omega arith;
      high = ltb-false 255 p t.1.0;
      short = ltb-false p n t.1.1.0;
      id_in = omega arith;
      index_in = omega arith;
      fits = ltb-false room (p + 3) t.1.1.1.1.1.0;
    }

module _ (p : ℕ) (first last : Bool) (id index : ℕ) (d out : List ℕ) (number : ℕ) (q : number ≡ refused_with (write_tests p id index (length d) (length out))) where
  pub write_refused : (number ≡ 0 → ⊥)
      → (◌≡◌ {A = Wrote} (record { number = number; length = 0 }) (write_for p (packet_of first last id index d) (length out)))
      × (out ≡ out_for p (packet_of first last id index d) out)
  unfolding write_for out_for write_number_for
  write_refused h = (simp (← q, ne_eqb number 0 h), simp (← q, ne_eqb number 0 h))

  pub write_done : number ≡ 0 → (h : ℕ) (e : List ℕ) → h ≡ head_of first last id (ltb (length d) p) index → e ≡ written out 0 (sealed (h ∷ data_of p d))
      → (◌≡◌ {A = Wrote} (record { number = 0; length = p + 3 }) (write_for p (packet_of first last id index d) (length out)))
      × (e ≡ out_for p (packet_of first last id index d) out)
  unfolding write_for out_for write_number_for encode plain_of
  write_done z h e eh ee = (simp (← q, z), simp (← q, z, ← eh) ee)
