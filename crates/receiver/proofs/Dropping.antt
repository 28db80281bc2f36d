-- Every step reports the bytes that it drops as E5 of 02 says, and all else as 01 says. Assumes nothing.
use Prim.Native.Nat.{ℕ, zero, suc, ◌+◌, ◌≤◌, ◌<◌}
use mathlib.Core.Path.{◌≡◌, refl}
use mathlib.Core.List.{List}
use mathlib.Core.Bool.{Bool, true, false, not, ◌&&◌, ◌||◌}
use native.Mathlib.Omega.{arith}
use borrow.Author.Tests.{ne_eqb, eqb-true}
use lib.Dec.{leb, eqb}
use lib.ListN.{length}
use Rattle.laws.specs.Pick.{pick}
use Rattle.laws.proofs.Flags.{or_false}
use Rattle.packet.specs.Packet.{decode}
use Rattle.receiver.specs.declared.Link.{Link}
use Rattle.receiver.specs.declared.Receiver.{Receiver}
use Rattle.receiver.specs.Link.{null_of, broken_link}
use Rattle.receiver.specs.Receiver.{link_of, broken, step_number}
use Rattle.receiver.specs.Dropped.{drops_by, dropped_in, dropped_for, told_for, heard_for}
use Rattle.receiver.specs.Dropping.{by_sentence, Dropping}
use Rattle.receiver.proofs.Steps.{accepted_of_law, most_of}
use Rattle.receiver.proofs.Sound.{len_in, id_in}
use Rattle.receiver.proofs.Dropped.{sentence}

-- of an open unit of m bytes at the most
most_by : (o b z f v : Bool) (m n : ℕ) → n ≤ 255 → (o ≡ true → m ≤ 4096) → pick (not o) 0 (pick b m (pick z 0 (pick f m (pick v (m + n) 0)))) ≤ 4351
most_by false b z f v m n h k = omega arith
most_by true true z f v m n h k = let w = k refl in omega arith
most_by true false true f v m n h k = omega arith
most_by true false false true v m n h k = let w = k refl in omega arith
most_by true false false false true m n h k = let w = k refl in omega arith
most_by true false false false false m n h k = omega arith

drops_most : (l : Link) (i : ℕ) (f t : Bool) (n : ℕ) → n ≤ 255 → broken_link l ≡ false → drops_by l i f t n ≤ 4351
unfolding drops_by
drops_most l i f t n h k =
    most_by l.begun (l.heard && not (eqb i l.index)) (null_of f t n) f (not (leb (l.len + n) 4096)) l.len n h (len_in l k)

-- none of the four is broken
none_of : (a b c d : Bool) → a || b || c || d ≡ false → (a ≡ false) × (b ≡ false) × (c ≡ false) × (d ≡ false)
none_of a b c d e =
    let x = or_false (a || b || c) d e in
    let y = or_false (a || b) c x.0 in
    let z = or_false a b y.0 in
    (z.0, z.1, y.1, x.1)

own_fine : (r : Receiver) → broken r ≡ false → (j : ℕ) → j < 4 → broken_link (link_of r j) ≡ false
unfolding broken
own_fine r h = go (none_of (broken_link (link_of r 0)) (broken_link (link_of r 1)) (broken_link (link_of r 2)) (broken_link (link_of r 3)) h)
  where
    go : (broken_link (link_of r 0) ≡ false) × (broken_link (link_of r 1) ≡ false) × (broken_link (link_of r 2) ≡ false) × (broken_link (link_of r 3) ≡ false)
        → (j : ℕ) → j < 4 → broken_link (link_of r j) ≡ false
    go k zero l = k.0
    go k (suc zero) l = k.1
    go k (suc (suc zero)) l = k.2
    go k (suc (suc (suc zero))) l = k.3
    go k (suc (suc (suc (suc j)))) l = absurd (omega arith)

module _ (p : ℕ) (r : Receiver) (s : List ℕ) (room : ℕ) where
  useful_most : step_number p r s room ≡ 0 → length (decode p s).chunk.body ≤ 255
  unfolding decode
  useful_most e = most_of p s (accepted_of_law p r s room e).checked

  by_sentence_law : step_number p r s room ≡ 0 → dropped_for p r s room ≡ by_sentence r (decode p s)
  unfolding dropped_for dropped_in
  by_sentence_law e = rw e (sentence _ _ _ _ _ (useful_most e))

  none_by : eqb (step_number p r s room) 0 ≡ false → dropped_for p r s room ≡ 0
  unfolding dropped_for
  none_by e = rw e

  at_most : (b : Bool) → eqb (step_number p r s room) 0 ≡ b → dropped_for p r s room ≤ 4351
  at_most true e =
      let z = eqb-true _ _ e in
      rw (by_sentence_law z) (drops_most _ _ _ _ _ (useful_most z) (own_fine r (accepted_of_law p r s room z).fine (decode p s).id (id_in p s)))
  at_most false e = rw (none_by e) (omega arith)

  pub dropping : Dropping p r s room
  unfolding told_for heard_for
  dropping =
      record {
        answer = refl;
        next = refl;
        refused = λ e. none_by (ne_eqb _ _ e);
        counted = by_sentence_law;
        most = at_most (eqb (step_number p r s room) 0) refl;
        outer = refl;
      }
