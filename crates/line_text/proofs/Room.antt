-- With room and without, and a text that is known to have it. Assumes nothing.
use mathlib.Core.Path.{◌≡◌, refl, sym, ap, ap₂, ◌∙◌}
use mathlib.Core.Bool.{Bool, true, false}
use mathlib.Core.List.{List, ◌++◌}
use Prim.Native.Nat.{ℕ, ◌+◌, ◌≤◌, ◌<◌}
use native.Mathlib.Omega.{arith}
use borrow.Author.Tests.{le-leb, lt-leb, leb-true, leb-false}
use lib.Dec.{leb}
use lib.ListN.{length}
use Rattle.laws.specs.Pick.{pick}
use Rattle.laws.proofs.Written.{written_length}
use Rattle.moves.specs.Moves as moves
use Rattle.moves.proofs.Pieces.{puts, puts_then, puts_same}
use Rattle.line_text.specs.Decimal.{decimal}
use Rattle.line_text.specs.Line.{Placed}

-- what the test of the room says
pub has_room : {n m : ℕ} {b : Bool} → b ≡ leb n m → b ≡ true → n ≤ m
has_room {n} {m} e t = leb-true n m (sym e ∙ t)

-- no room: nothing is written
pub no_room : (room : ℕ) (d : List ℕ) (at : ℕ) (text : List ℕ) → length d < at + room → Placed room d at text d at
no_room room d at text h = let f = lt-leb (at + room) (length d) h in record { buffer = rw f refl; end = rw f refl }

-- and what a call answers by the test
pub lacks_room : {n : ℕ} {b : Bool} (room : ℕ) (d : List ℕ) (at : ℕ) (text : List ℕ) → b ≡ leb n (length d) → b ≡ false → n ≡ at + room
    → (at ≤ at + room) × Placed room d at text d at
lacks_room {n} room d at text e t s =
    let h : length d < n = leb-false n (length d) (sym e ∙ t) in
    (omega arith, no_room room d at text (omega arith))

-- a text that stands there, and had the room asked for
pub placed : (room : ℕ) (d : List ℕ) (at : ℕ) (text e : List ℕ) (n : ℕ) → at + room ≤ length d → moves.Puts d at text e n → Placed room d at text e n
placed room d at text e n h p = let f = le-leb (at + room) (length d) h in record { buffer = rw f p.text; end = rw f p.end }

-- and what such a call says where there is the room
pub fit : {room : ℕ} {d : List ℕ} {at : ℕ} {text e : List ℕ} {n : ℕ} → at + room ≤ length d → Placed room d at text e n → moves.Puts d at text e n
fit {room} {d} {at} {text} {e} {n} h p =
    let f = le-leb (at + room) (length d) h in
    record { text = rw f at p.buffer; end = rw f at p.end }

-- a word, by what copying it into the buffer does
pub copied : (text d e : List ℕ) (at n : ℕ) → n ≡ moves.behind d at text → e ≡ moves.placed d at text
    → (n ≤ at + length text) × Placed (length text) d at text e n
unfolding moves.behind moves.placed
copied text d e at n p q = (go (leb (at + length text) (length d)) p, record { buffer = q; end = p })
  where
    go : (b : Bool) → n ≡ pick b (at + length text) at → n ≤ at + length text
    go true m = omega arith
    go false m = omega arith

-- a word and a number of at most twenty digits behind it
pub both : (text xs d e f : List ℕ) (at k a n : ℕ) → at + (length text + 20) ≤ length d → xs ≡ decimal k → length xs ≤ 20
    → a ≡ moves.behind d at text → e ≡ moves.placed d at text → n ≡ moves.behind e a xs → f ≡ moves.placed e a xs
    → (n ≤ at + (length text + 20)) × Placed (length text + 20) d at (text ++ decimal k) f n
both text xs d e f at k a n h x s p q u v =
    let w = puts text d e at a (omega arith) p q in
    let we = w.end in
    let m : length e ≡ length d = ap length w.text ∙ written_length d at text (omega arith) in
    let y = puts xs e f a n (omega arith) u v in
    let ye = y.end in
    (omega arith, placed (length text + 20) d at (text ++ decimal k) f n h (puts_then (omega arith) w (puts_same x y)))

-- one outcome only: the offset behind the text, and the buffer after the call. A bound beside it adds nothing
pub placed_once : (room at bound : ℕ) (text before : List ℕ) → (x y : ℕ × List ℕ) → (x.0 ≤ bound) × Placed room before at text x.1 x.0
    → (y.0 ≤ bound) × Placed room before at text y.1 y.0 → x ≡ y
placed_once room at bound text before x y p q = ap₂ (λ n s. (n, s)) (p.1.end ∙ sym q.1.end) (p.1.buffer ∙ sym q.1.buffer)
