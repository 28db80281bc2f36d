-- The ways through the code, in its own words. Assumes nothing.
use Prim.Native.Nat.{ℕ, ◌+◌, ◌≤◌, ◌<◌}
use mathlib.Core.List.{List, ◌++◌}
use mathlib.Core.Path.{◌≡◌}
use borrow.Author.Tests.{eq-eqb, ne_eqb, lt-ltb, le-ltb}
use Rattle.moves.specs.Moves.{Puts}
use Rattle.moves.proofs.Pieces.{puts_none}
use Rattle.line_text.specs.Decimal.{ascii, decimal}
use Rattle.calendar.specs.declared.Date.{Date}
use Rattle.description.specs.declared.Lengths.{Lengths}
use Rattle.mdi.specs.declared.Answer.{Answer}
use Rattle.inspect_text.specs.Inspect.{length_text, content_text, head_text, refused_text, packet_text}

module _ {d e : List ℕ} {at n : ℕ} where
  pub length_some : (count i : ℕ) (x : Lengths) → i < count → Puts d at (ascii " " ++ decimal (x.a + x.b)) e n → Puts d at (length_text count i x) e n
  unfolding length_text
  length_some count i x h p = rw (lt-ltb _ _ h) p

  pub line_refused : (k o : ℕ) (x : Answer) (t : Date) → (x.number ≡ 0 → ⊥) → Puts d at (head_text k o ++ (ascii " " ++ refused_text x.number x.place)) e n → Puts d at (packet_text k o x t) e n
  unfolding packet_text
  line_refused k o x t h p = rw (ne_eqb x.number 0 h) p

  pub line_read : (k o : ℕ) (x : Answer) (t : Date) → x.number ≡ 0 → Puts d at (head_text k o ++ content_text x.content t) e n → Puts d at (packet_text k o x t) e n
  unfolding packet_text
  line_read k o x t h p = rw (eq-eqb x.number 0 h) p

pub length_none : (d : List ℕ) (at count i : ℕ) (x : Lengths) → count ≤ i → Puts d at (length_text count i x) d at
unfolding length_text
length_none d at count i x h = rw (le-ltb _ _ h) (puts_none d at)
