-- What the calls join. Assumes nothing.
use Prim.Native.Nat.{ℕ, ◌≤◌}
use mathlib.Core.Path.{◌≡◌, refl, sym, ap, ◌∙◌}
use mathlib.Core.Bool.{Bool, true, false, ◌&&◌, ◌||◌, not}
use mathlib.Core.List.{List, map}
use lib.ListN.{length, get_or, get_or-eq_default}
use native.Mathlib.Omega.{arith}
use Rattle.laws.specs.Big.{big_of, Bytes}
use Rattle.laws.proofs.Flags.{or_none}
use Rattle.items.specs.Items.{cut_of}
use Rattle.items.specs.declared.Spot.{Spot}
use Rattle.tag_spots.specs.Rows.{in_row, keys_of, starts_for, bits_for}
use Rattle.tag_spots.proofs.Names.{zeros, starts_named, bits_named}
use Rattle.mdi_spots.specs.Table.{exactly, whole_bytes, sdc_bits, sdci_bits, table, names_of}
use Rattle.mdi_spots.specs.Spotted.{passed_of, spots_of, spot_in, away, wrong_at, absent_at, bad_length_at}
use Rattle.mdi_spots.specs.declared.Spots.{Spots}
use Rattle.mdi_spots.specs.declared.Passed.{Passed}

-- ---- `find_all`

pub found : (S slots starts bits : List ℕ) (stop : ℕ) → Bytes S → keys_of (in_row (names_of table)) slots (length table) ≡ map big_of (names_of table)
    → (stop ≡ (cut_of S).stop) × (stop ≤ length S) × (starts ≡ starts_for (in_row (names_of table)) slots (cut_of S).items (zeros (length table)) (zeros (length table)))
    × (bits ≡ bits_for (in_row (names_of table)) slots (cut_of S).items (zeros (length table)) (zeros (length table)))
    → (◌≡◌ {A = Passed} (record { spots = record { start = starts; bits = bits }; stop = stop }) (passed_of (cut_of S))) × (stop ≤ length S)
unfolding passed_of spots_of
found S slots starts bits stop sb keys h =
    let a = h.2 ∙ starts_named S sb (in_row (names_of table)) slots (names_of table) keys refl in
    let b = h.3 ∙ bits_named S sb (in_row (names_of table)) slots (names_of table) keys refl in
    (rw (a, b, h.0) refl, h.1)

-- ---- `spot`
pub no_row : (t : Spots) (k : ℕ) → length t.start ≡ 11 → length t.bits ≡ 11 → 11 ≤ k → ◌≡◌ {A = Spot} (record { start = 0; bits = 0 }) (spot_in t k)
no_row t k l m h =
    let a : get_or t.start k 0 ≡ 0 = get_or-eq_default t.start 0 {n = k} (omega arith) in
    let b : get_or t.bits k 0 ≡ 0 = get_or-eq_default t.bits 0 {n = k} (omega arith) in
    rw (a, b) refl

-- ---- `is_wrong`: by what the rule answers of the bits
pub by_rule : (rule : ℕ → Bool) (x : Spot) (ok r : Bool) → ok ≡ rule x.bits → r ≡ (not (away x) && not ok) → r ≡ wrong_at rule x
unfolding wrong_at
by_rule rule x ok r e h = h ∙ ap (λ (b : Bool). not (away x) && not b) e

-- ---- 4 and 5: `or` from the left is `or` over the rows
five : (a b c d e : Bool) → (a || b || c || d || e) ≡ (a || (b || (c || (d || (e || false)))))
five true b c d e = refl
five false true c d e = refl
five false false true d e = refl
five false false false true e = refl
five false false false false e = sym (or_none e)

eleven : (a b c d e f g h i j k : Bool) → (a || b || c || d || e || f || g || h || i || j || k) ≡ (a || (b || (c || (d || (e || (f || (g || (h || (i || (j || (k || false)))))))))))
eleven true b c d e f g h i j k = refl
eleven false true c d e f g h i j k = refl
eleven false false true d e f g h i j k = refl
eleven false false false true e f g h i j k = refl
eleven false false false false true f g h i j k = refl
eleven false false false false false true g h i j k = refl
eleven false false false false false false true h i j k = refl
eleven false false false false false false false true i j k = refl
eleven false false false false false false false false true j k = refl
eleven false false false false false false false false false true k = refl
eleven false false false false false false false false false false k = sym (or_none k)

pub missing_at : (t : Spots) (x0 x1 x2 x4 x5 : Spot) (a b c d e : Bool)
    → x0 ≡ spot_in t 0 → x1 ≡ spot_in t 1 → x2 ≡ spot_in t 2 → x4 ≡ spot_in t 4 → x5 ≡ spot_in t 5
    → a ≡ away x0 → b ≡ away x1 → c ≡ away x2 → d ≡ away x4 → e ≡ away x5 → (a || b || c || d || e) ≡ absent_at t
unfolding absent_at
missing_at t x0 x1 x2 x4 x5 a b c d e y0 y1 y2 y4 y5 p q r s u = rw (p, q, r, s, u, y0, y1, y2, y4, y5) (five (away (spot_in t 0)) (away (spot_in t 1)) (away (spot_in t 2)) (away (spot_in t 4)) (away (spot_in t 5)))

pub length_at : (t : Spots) (x0 x1 x2 x3 x4 x5 x6 x7 x8 x9 x10 : Spot) (a b c d e f g h i j k : Bool)
    → x0 ≡ spot_in t 0 → x1 ≡ spot_in t 1 → x2 ≡ spot_in t 2 → x3 ≡ spot_in t 3 → x4 ≡ spot_in t 4 → x5 ≡ spot_in t 5 → x6 ≡ spot_in t 6 → x7 ≡ spot_in t 7 → x8 ≡ spot_in t 8 → x9 ≡ spot_in t 9 → x10 ≡ spot_in t 10
    → a ≡ wrong_at (exactly 64) x0 → b ≡ wrong_at (exactly 32) x1 → c ≡ wrong_at (exactly 72) x2 → d ≡ wrong_at sdc_bits x3 → e ≡ wrong_at sdci_bits x4 → f ≡ wrong_at (exactly 8) x5 → g ≡ wrong_at whole_bytes x6 → h ≡ wrong_at whole_bytes x7 → i ≡ wrong_at whole_bytes x8 → j ≡ wrong_at whole_bytes x9 → k ≡ wrong_at (exactly 64) x10
    → (a || b || c || d || e || f || g || h || i || j || k) ≡ bad_length_at t
unfolding bad_length_at
length_at t x0 x1 x2 x3 x4 x5 x6 x7 x8 x9 x10 a b c d e f g h i j k y0 y1 y2 y3 y4 y5 y6 y7 y8 y9 y10 p0 p1 p2 p3 p4 p5 p6 p7 p8 p9 p10 =
    rw (p0, p1, p2, p3, p4, p5, p6, p7, p8, p9, p10, y0, y1, y2, y3, y4, y5, y6, y7, y8, y9, y10) (eleven (wrong_at (exactly 64) (spot_in t 0)) (wrong_at (exactly 32) (spot_in t 1)) (wrong_at (exactly 72) (spot_in t 2)) (wrong_at sdc_bits (spot_in t 3)) (wrong_at sdci_bits (spot_in t 4)) (wrong_at (exactly 8) (spot_in t 5)) (wrong_at whole_bytes (spot_in t 6)) (wrong_at whole_bytes (spot_in t 7)) (wrong_at whole_bytes (spot_in t 8)) (wrong_at whole_bytes (spot_in t 9)) (wrong_at (exactly 64) (spot_in t 10)))
