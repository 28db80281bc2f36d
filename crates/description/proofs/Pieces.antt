-- The bytes of a value, piece by piece: the first byte, the three bytes of a stream, and the streams one behind the other. Assumes nothing.
use mathlib.Core.Path.{◌≡◌, refl, ap₂, ◌∙◌}
use mathlib.Core.List.{List, [], ◌∷◌}
use Prim.Native.Nat.{ℕ, ◌+◌, ◌*◌, ◌/◌, ◌%◌, ◌≤◌, ◌<◌}
use native.Mathlib.Nat.{div-one, add-zero}
use native.Mathlib.Omega.{arith}
use borrow.Author.Tests.{lt-leb, le-leb}
use lib.ListN.{length, get_or, take, drop, set, length-drop}
use lib.Seq.{get_or-drop}
use Rattle.std.specs.Option.{unwrap_or}
use Rattle.std.specs.List.{slice_get}
use Rattle.laws.specs.Big.{bytes_of, big_of}
use Rattle.laws.specs.Written.{written}
use Rattle.laws.proofs.Table.{take_tab}
use Rattle.laws.proofs.Written.{set_written, store_next}
use Rattle.description.specs.Bytes.{length_bytes, lengths_of, slot_at, no_stream, described_by}
use Rattle.description.specs.declared.Lengths.{Lengths}

-- the first byte
pub first_is : (s : List ℕ) → unwrap_or (slice_get s 0) 0 ≡ big_of (take 1 s)
unfolding big_of
first_is [] = refl
first_is (x ∷ s) = omega arith

-- lengths are their two numbers
pub lengths_are : (l : Lengths) (a b : ℕ) → l.a ≡ a → l.b ≡ b → l ≡ record { a = a; b = b }
lengths_are l a b e f = ap₂ (λ (m n : ℕ). record { a = m; b = n }) e f

-- the three bytes of a stream at an offset
pub slot_none : (v : List ℕ) (at : ℕ) (l : Lengths) → l ≡ no_stream → length v < at + 3 → l ≡ slot_at v at
unfolding slot_at
slot_none v at l e h = rw (lt-leb _ _ h) e

pub slot_some : (v : List ℕ) (at x y z : ℕ) → at + 3 ≤ length v → x ≡ get_or v at 0 → y ≡ get_or v (at + 1) 0 → z ≡ get_or v (at + 2) 0
    → record { a = (x * 65536 + y * 256 + z) / 4096 % 4096; b = (x * 65536 + y * 256 + z) % 4096 } ≡ slot_at v at
unfolding slot_at lengths_of big_of
slot_some v at x y z h p q r =
    let e : take 3 (drop at v) ≡ x ∷ y ∷ z ∷ [] = take_tab 3 (drop at v) (simp length-drop (omega arith)) ∙ simp (get_or-drop, add-zero, p, q, r) in
    let k : x * 65536 + (y * 256 + (z * 1 + 0)) ≡ x * 65536 + y * 256 + z = omega arith in
    rw (le-leb _ _ h, e) (simp (k, div-one))

-- stores of the three bytes
pub lengths_put : (d : List ℕ) (at : ℕ) (l : Lengths) (x : ℕ) → at + 3 ≤ length d → x ≡ l.a * 4096 + l.b
    → set (set (set d at (x / 65536 % 256)) (at + 1) (x / 256 % 256)) (at + 2) (x % 256) ≡ written d at (length_bytes l)
unfolding length_bytes bytes_of
lengths_put d at l x h e =
    let k : l.a * 4096 + (l.b * 1 + 0) ≡ x = omega arith in
    rw (k, div-one)
    (store_next d _ at (x / 65536 % 256 ∷ x / 256 % 256 ∷ []) 2 (x % 256) refl (omega arith)
    (store_next d _ at (x / 65536 % 256 ∷ []) 1 (x / 256 % 256) refl (omega arith) (set_written d at (x / 65536 % 256) (omega arith))))

-- a value, by its pieces
pub described : (v : List ℕ) (h : ℕ) (s0 s1 s2 s3 : Lengths) → h ≡ big_of (take 1 v)
    → s0 ≡ slot_at v 1 → s1 ≡ slot_at v 4 → s2 ≡ slot_at v 7 → s3 ≡ slot_at v 10
    → record { level = record { a = h / 4 % 4; b = h % 4 }; count = length v / 3; stream = s0 ∷ s1 ∷ s2 ∷ s3 ∷ [] } ≡ described_by v
unfolding described_by
described v h s0 s1 s2 s3 e e0 e1 e2 e3 = rw (e, e0, e1, e2, e3, div-one)
