-- The value of a block written at an offset: its stores one behind the other. Assumes nothing.
use Prim.Native.Nat.{ℕ, min, ◌+◌, ◌-◌, ◌≤◌, ◌<◌}
use mathlib.Core.Bool.{Bool, true, false}
use mathlib.Core.Path.{◌≡◌, refl, sym, ap, ◌∙◌}
use mathlib.Core.List.{List, [], ◌∷◌, ◌++◌}
use native.Mathlib.Omega.{arith}
use borrow.Author.Tests.{ltb-true, ltb-false, lt-leb}
use lib.Dec.{ltb, leb}
use lib.ListN.{length, take, drop, set, length-append, length-set}
use lib.Seq.{take_at, drop_at, take_all, length-take-le}
use Rattle.laws.specs.Big.{bytes_of}
use Rattle.laws.specs.Pick.{pick}
use Rattle.laws.specs.Written.{written}
use Rattle.laws.proofs.Big.{bytes_length}
use Rattle.laws.proofs.Written.{set_written, write_next, written_length, written_none}
use Rattle.fields.specs.Numbers.{put_at}
use Rattle.fields.proofs.Writing.{put_in}
use Rattle.moves.specs.Moves.{placed}
use Rattle.moves.proofs.Turns.{placed_is}
use Rattle.crc.specs.Crc.{crc_of}
use Rattle.std.specs.Prelude.{Option, None, Some, MatchOption}
use Rattle.sdc.specs.declared.Head.{Head}
use Rattle.sdc.specs.declared.Sdc.{Sdc}
use Rattle.sdc.specs.Block.{sealed16, block_bytes, sdc_bytes}

pub sealed_length : (s : List ℕ) → length (sealed16 s) ≡ length s + 2
unfolding sealed16
sealed_length s = length-append s (bytes_of 2 (crc_of 16 0x1021 s)) ∙ ap (λ (n : ℕ). length s + n) (bytes_length 2 (crc_of 16 0x1021 s))

module _ (afs : ℕ) (d out : List ℕ) (at : ℕ) where
  pub plain_written : at + (1 + length d) ≤ length out → (e : List ℕ) → e ≡ placed (set out at afs) (at + 1) d → e ≡ written out at (afs ∷ d)
  plain_written h e q =
      let l : length (set out at afs) ≡ length out = length-set out at afs in
      q ∙ placed_is (set out at afs) (at + 1) d (omega arith)
      ∙ write_next out (set out at afs) at (afs ∷ []) d (at + 1) refl (omega arith) (set_written out at afs (omega arith))

  pub seal_written : at + (3 + length d) ≤ length out → (e f : List ℕ) (end w : ℕ) → end ≡ at + 1 + length d → e ≡ written out at (afs ∷ d)
      → w ≡ crc_of 16 0x1021 (take (end - at) (drop at e)) → f ≡ put_at 2 e end w → f ≡ written out at (sealed16 (afs ∷ d))
  unfolding sealed16 written
  seal_written h e f end w en qe qw qf =
      let s : List ℕ = afs ∷ d in
      let le : length e ≡ length out = ap length qe ∙ written_length out at s (omega arith) in
      let k : length s ≡ end - at = omega arith in
      let t : take (end - at) (drop at e) ≡ s =
      ap (λ (x : List ℕ). take (end - at) (drop at x)) qe
      ∙ ap (take (end - at)) (drop_at (take at out) (s ++ drop (at + length s) out) at (length-take-le at out (omega arith)))
      ∙ take_at s (drop (at + length s) out) (end - at) k in
      qf
      ∙ put_in 2 e end w (omega arith)
      ∙ write_next out e at s (bytes_of 2 w) end (omega arith) (omega arith) qe
      ∙ ap (λ (v : ℕ). written out at (s ++ bytes_of 2 v)) (qw ∙ ap (crc_of 16 0x1021) t)

-- no more bytes than the body has
take_least : (body : List ℕ) (n size : ℕ) → length body ≡ 1024 → n ≡ min size 1024 → take n body ≡ take size body
take_least body n size l e = go (ltb 1024 size) refl
  where
    go : (b : Bool) → ltb 1024 size ≡ b → take n body ≡ take size body
    go true q = let h : 1024 < size = ltb-true _ _ q in take_all n body (omega arith) ∙ sym (take_all size body (omega arith))
    go false q = let h : size ≤ 1024 = ltb-false _ _ q in ap (λ (k : ℕ). take k body) (omega arith)

-- ---- a block's value, by its head
module _ (s : Sdc) where
  pub length_none : (r : ℕ) → s.head ≡ None → r ≡ 0 → (r ≡ length (sdc_bytes s)) × (r ≤ 1027)
  unfolding sdc_bytes block_bytes
  length_none r e q = (q ∙ rw e refl, omega arith)

  module _ (h : Head) (n : ℕ) (e : s.head ≡ Some h) (l : length s.body ≡ 1024) (q : n ≡ min h.size 1024) where
    abbrev value : List ℕ
    value = sealed16 (h.afs ∷ take n s.body)

    pub value_is : value ≡ sdc_bytes s
    unfolding sdc_bytes block_bytes
    value_is = rw e (ap (λ (t : List ℕ). sealed16 (h.afs ∷ t)) (take_least s.body n h.size l q))

    size_is : length (sdc_bytes s) ≡ n + 3
    size_is =
        let t : length (take n s.body) ≡ n = length-take-le n s.body (omega arith) in
        sym (ap length value_is) ∙ sealed_length (h.afs ∷ take n s.body) ∙ omega arith

    pub length_given : (n + 3 ≡ length (sdc_bytes s)) × (n + 3 ≤ 1027)
    length_given = (sym size_is, omega arith)

    module _ (out : List ℕ) (at : ℕ) where
      pub put_fits : at + (n + 3) ≤ length out → (d : List ℕ) → d ≡ written out at value → d ≡ placed out at (sdc_bytes s)
      put_fits room d w =
          let z = size_is in
          w ∙ ap (written out at) value_is ∙ sym (placed_is out at (sdc_bytes s) (omega arith))

      pub put_out : length out < at + (n + 3) → out ≡ placed out at (sdc_bytes s)
      unfolding placed
      put_out room = let k : length out < at + length (sdc_bytes s) = rw size_is room in rw (lt-leb _ _ k) refl

  pub length_by : (P : Head → Type 0) (r : ℕ) → length s.body ≡ 1024 → MatchOption s.head (r ≡ 0) P → ((x : Head) → P x → r ≡ min x.size 1024 + 3)
      → (r ≡ length (sdc_bytes s)) × (r ≤ 1027)
  length_by P r l m f = go s.head refl m
    where
      go : (h : Option Head) → s.head ≡ h → MatchOption h (r ≡ 0) P → (r ≡ length (sdc_bytes s)) × (r ≤ 1027)
      go None e q = length_none r e q
      go (Some x) e q = rw (f x q) (length_given x (min x.size 1024) e l refl)

  pub put_none : (out : List ℕ) (at : ℕ) → s.head ≡ None → out ≡ placed out at (sdc_bytes s)
  unfolding sdc_bytes block_bytes placed
  put_none out at e = rw e (go (leb (at + 0) (length out)))
    where
      go : (b : Bool) → out ≡ pick b (written out at []) out
      go true = sym (written_none out at)
      go false = refl
