-- The bytes that a packet drops are those of E5's sentence (02), and so are those that the code counts, by the way taken. Assumes nothing.
use Prim.Native.Nat.{ℕ, ◌+◌, ◌≤◌, ◌<◌}
use mathlib.Core.Path.{◌≡◌, refl, sym, ap, ◌∙◌}
use mathlib.Core.Bool.{Bool, true, false, not, ◌&&◌, true≢false}
use native.Mathlib.Omega.{arith}
use borrow.Author.Tests.{le-leb, lt-leb}
use lib.Dec.{leb, eqb}
use Rattle.laws.specs.Pick.{pick}
use Rattle.receiver.specs.declared.Link.{Link}
use Rattle.receiver.specs.Link.{kept, null_of, base_of, joins, adds, completes, fate_of}
use Rattle.receiver.specs.Bytes.{open_of, gone_of, dropped_bytes}
use Rattle.receiver.specs.Dropped.{drops_by}
use Rattle.receiver.specs.Dropping.{Sentence}
use Rattle.receiver.proofs.Balance.{dropped_is, null_first}

-- z: null; f: the first flag; o: a unit is open; h: a packet was heard; e: the index is the next; v: the unit does not pass 4,096 bytes, which
-- that of a first packet never does; m: bytes of the open unit
falls : (z f o h e v : Bool) (m n : ℕ) → (z ≡ true → f ≡ true) → (f ≡ true → v ≡ true)
    → pick ((o && pick h e true) && pick z true (not f)) 0 (pick o m 0) + pick ((not z && pick f true (o && pick h e true)) && not v) (pick f 0 m + n) 0
    ≡ pick (not o) 0 (pick (h && not e) m (pick z 0 (pick f m (pick (not v) (m + n) 0))))
falls true false o h e v m n a b = absurd (true≢false (sym (a refl)))
falls z true o h e false m n a b = absurd (true≢false (sym (b refl)))
falls true true true true true true m n a b = omega arith
falls true true true true false true m n a b = omega arith
falls true true true false e true m n a b = omega arith
falls true true false h e true m n a b = omega arith
falls false true true true true true m n a b = omega arith
falls false true true true false true m n a b = omega arith
falls false true true false e true m n a b = omega arith
falls false true false h e true m n a b = omega arith
falls false false true true true true m n a b = omega arith
falls false false true true true false m n a b = omega arith
falls false false true true false v m n a b = omega arith
falls false false true false e true m n a b = omega arith
falls false false true false e false m n a b = omega arith
falls false false false h e v m n a b = omega arith

pub sentence : Sentence
unfolding dropped_bytes gone_of open_of kept fate_of completes adds joins base_of drops_by
sentence l i true t n h =
    let z = null_of true t n in
    let s = pick l.heard (eqb i l.index) true in
    let v = leb (0 + n) 4096 in
    rw (dropped_is (not z && true) v t (0 + n))
    (falls z true l.begun l.heard (eqb i l.index) v l.len n (null_first true t n) (λ e. le-leb (0 + n) 4096 (omega arith)))
sentence l i false t n h =
    let z = null_of false t n in
    let s = pick l.heard (eqb i l.index) true in
    let v = leb (l.len + n) 4096 in
    rw (dropped_is (not z && (l.begun && s)) v t (l.len + n))
    (falls z false l.begun l.heard (eqb i l.index) v l.len n (null_first false t n) (λ e. absurd (true≢false (sym e))))

-- ---- by the way taken
-- of an open unit; h: a packet was heard, e: the index is the next
gap_is : (o h e : Bool) → not o ≡ false → h && not e ≡ not (o && pick h e true)
gap_is false h e o = absurd (true≢false o)
gap_is true true e o = refl
gap_is true false e o = refl

module _ (l : Link) (i : ℕ) (f t : Bool) (n : ℕ) (h : n ≤ 255) where
  pub drops_none : not l.begun ≡ true → 0 ≡ dropped_bytes l i f t n
  unfolding drops_by
  drops_none a = rw (sentence l i f t n h) (simp a)

  module _ (o : not l.begun ≡ false) (k : Bool) (ek : k ≡ kept l i) (m : ℕ) (em : m ≡ l.len) where
    gap : l.heard && not (eqb i l.index) ≡ not k
    unfolding kept
    gap = gap_is l.begun l.heard (eqb i l.index) o ∙ ap not (sym ek)

    pub drops_gap : not k ≡ true → m ≡ dropped_bytes l i f t n
    unfolding drops_by
    drops_gap a = rw (sentence l i f t n h) (simp (o, gap, a, em))

    module _ (a : not k ≡ false) (z : Bool) (ez : z ≡ null_of f t n) where
      pub drops_null : z ≡ true → 0 ≡ dropped_bytes l i f t n
      unfolding drops_by
      drops_null b = rw (sentence l i f t n h) (simp (o, gap, a, ← ez, b))

      module _ (b : z ≡ false) where
        some : null_of f t n ≡ false
        some = sym ez ∙ b

        pub drops_first : f ≡ true → m ≡ dropped_bytes l i f t n
        unfolding drops_by
        drops_first c = rw (sentence l i f t n h) (simp (o, gap, a, some) (simp (c, em)))

        module _ (c : f ≡ false) where
          pub drops_fits : m + n ≤ 4096 → 0 ≡ dropped_bytes l i f t n
          unfolding drops_by
          drops_fits d = rw (sentence l i f t n h) (simp (o, gap, a, some) (simp (c, ← em, le-leb (m + n) 4096 d)))

          pub drops_over : 4096 < m + n → m + n ≡ dropped_bytes l i f t n
          unfolding drops_by
          drops_over d = rw (sentence l i f t n h) (simp (o, gap, a, some) (simp (c, ← em, lt-leb (m + n) 4096 d)))
