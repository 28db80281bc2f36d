-- Every useful byte of a packet is delivered, dropped, skipped or in the open unit. Assumes nothing.
use Prim.Native.Nat.{ℕ, ◌+◌}
use mathlib.Core.Path.{◌≡◌, refl, sym, ◌∙◌}
use mathlib.Core.Bool.{Bool, true, false, not, ◌&&◌, ◌||◌, true≢false}
use native.Mathlib.Omega.{arith}
use borrow.Author.Tests.{eqb-true}
use lib.Dec.{leb, eqb}
use Rattle.laws.specs.Pick.{pick}
use Rattle.receiver.specs.declared.Link.{Link}
use Rattle.receiver.specs.Link.{kept, null_of, base_of, joins, adds, completes, Fate, delivered, added, dropped, skipped, fate_of, link_with, link_after}
use Rattle.receiver.specs.Bytes.{open_of, delivered_by, dropped_by, skipped_by, gone_of, delivered_bytes, dropped_bytes, skipped_bytes}
use Rattle.receiver.specs.Skipped.{Skipping}

-- the fate, with j: the packet belongs to a unit; v: the unit does not pass 4,096 bytes; t: the last flag
abbrev fate : Bool → Bool → Bool → Fate
fate j v t = pick ((j && v) && t) delivered (pick (j && v) added (pick j dropped skipped))

delivered_is : (j v t : Bool) (m : ℕ) → delivered_by (fate j v t) m ≡ pick ((j && v) && t) m 0
unfolding delivered_by
delivered_is true true true m = refl
delivered_is true true false m = refl
delivered_is true false t m = refl
delivered_is false v t m = refl

pub dropped_is : (j v t : Bool) (m : ℕ) → dropped_by (fate j v t) m ≡ pick (j && not v) m 0
unfolding dropped_by
dropped_is true true true m = refl
dropped_is true true false m = refl
dropped_is true false t m = refl
dropped_is false v t m = refl

skipped_is : (j v t : Bool) (n : ℕ) → skipped_by (fate j v t) n ≡ pick j 0 n
unfolding skipped_by
skipped_is true true true n = refl
skipped_is true true false n = refl
skipped_is true false t n = refl
skipped_is false v t n = refl

-- z: null; f: the first flag; o: a unit was open; s: the index is the next; m: bytes of the open unit
sums : (z f o s v t : Bool) (i m n : ℕ) → (z ≡ true → f ≡ true) → (z ≡ true → n ≡ 0)
    → n + pick o m 0
    ≡ pick (((not z && pick f true (o && s)) && v) && t) (pick f 0 m + n) 0
    + (pick ((o && s) && pick z true (not f)) 0 (pick o m 0) + pick ((not z && pick f true (o && s)) && not v) (pick f 0 m + n) 0)
    + open_of (pick z (link_with i (o && s) m) (link_with i (((not z && pick f true (o && s)) && v) && not t) (pick f 0 m + n)))
    + pick (not z && pick f true (o && s)) 0 n
unfolding open_of link_with
sums true false o s v t i m n e g = absurd (true≢false (sym (e refl)))
sums true true false s v t i m n e g = omega (arith, g refl)
sums true true true true v t i m n e g = omega (arith, g refl)
sums true true true false v t i m n e g = omega (arith, g refl)
sums false true false s true true i m n e g = omega arith
sums false true true true true true i m n e g = omega arith
sums false true true false true true i m n e g = omega arith
sums false true false s true false i m n e g = omega arith
sums false true true true true false i m n e g = omega arith
sums false true true false true false i m n e g = omega arith
sums false true false s false true i m n e g = omega arith
sums false true true true false true i m n e g = omega arith
sums false true true false false true i m n e g = omega arith
sums false true false s false false i m n e g = omega arith
sums false true true true false false i m n e g = omega arith
sums false true true false false false i m n e g = omega arith
sums false false false s v t i m n e g = omega arith
sums false false true false v t i m n e g = omega arith
sums false false true true true true i m n e g = omega arith
sums false false true true true false i m n e g = omega arith
sums false false true true false true i m n e g = omega arith
sums false false true true false false i m n e g = omega arith

pub null_first : (f t : Bool) (n : ℕ) → null_of f t n ≡ true → f ≡ true
unfolding null_of
null_first true t n e = refl
null_first false t n e = e

pub null_none : (f t : Bool) (n : ℕ) → null_of f t n ≡ true → n ≡ 0
unfolding null_of
null_none true true n e = eqb-true n 0 e
null_none true false n e = absurd (true≢false (sym e))
null_none false t n e = absurd (true≢false (sym e))

pub skipping : Skipping
unfolding skipped_bytes fate_of completes adds joins
skipping l i f t n =
    skipped_is (not (null_of f t n) && pick f true (kept l i)) (leb (base_of l f + n) 4096) t n ∙ go (null_of f t n) f (kept l i) (null_none f t n)
  where
    go : (z f k : Bool) → (z ≡ true → n ≡ 0) → pick (not z && pick f true k) 0 n ≡ pick (z || f || k) 0 n
    go true f k e = e refl
    go false true k e = refl
    go false false k e = refl

-- one packet of n useful bytes: with the bytes of the open unit before it they are what it delivers, drops and leaves open, and what is skipped
pub balance : (l : Link) (i : ℕ) (f t : Bool) (n : ℕ)
    → n + open_of l ≡ delivered_bytes l i f t n + dropped_bytes l i f t n + open_of (link_after l i f t n) + skipped_bytes l i f t n
unfolding delivered_bytes dropped_bytes skipped_bytes fate_of completes adds joins base_of gone_of kept link_after open_of link_with
balance l i f t n =
    let z = null_of f t n in
    let s = pick l.heard (eqb i l.index) true in
    let v = leb (pick f 0 l.len + n) 4096 in
    let j = not z && pick f true (l.begun && s) in
    rw (delivered_is j v t (pick f 0 l.len + n), dropped_is j v t (pick f 0 l.len + n), skipped_is j v t n)
    (sums z f l.begun s v t i l.len n (null_first f t n) (null_none f t n))
