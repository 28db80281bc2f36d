-- The ways through the code of a break, in its own words. Assumes nothing.
use Prim.Native.Nat.{ℕ}
use mathlib.Core.Bool.{Bool, true, false}
use mathlib.Core.List.{List, ◌++◌}
use mathlib.Core.Path.{◌≡◌, sym, ◌∙◌}
use Rattle.moves.specs.Moves.{Puts}
use Rattle.moves.proofs.Pieces.{puts_none}
use Rattle.line_text.specs.Decimal.{ascii}
use Rattle.clock.specs.declared.Stamp.{Stamp}
use Rattle.std.specs.Prelude.{Option, None, Some, Result}
use Rattle.std.specs.Result.{result_unwrap_or}
use Rattle.refusal.specs.declared.Refusal.{Refusal}
use Rattle.clock.specs.Answers.{judged_in}
use Rattle.clock.proofs.Told.{yes_of}
use Rattle.record.specs.declared.Record.{Record}
use Rattle.record.specs.Succession.{follows_for}
use Rattle.inspect_text.specs.Break.{raw_stamp_text, raw_text, count_text, break_text}

module _ {d e : List ℕ} {at n : ℕ} where
  pub raw_none : (t : Option Stamp) → t ≡ None → Puts d at (ascii " no timestamp") e n → Puts d at (raw_text t) e n
  unfolding raw_text
  raw_none t h p = rw h p

  pub raw_given : (t : Option Stamp) (s : Stamp) → t ≡ Some s → Puts d at (raw_stamp_text s) e n → Puts d at (raw_text t) e n
  unfolding raw_text
  raw_given t s h p = rw h p

  pub break_some : (x y : Record) (o : Result Bool Refusal) → judged_in o ≡ follows_for x y → result_unwrap_or o false ≡ false
      → Puts d at (count_text (ascii "break: count ") x.count x.time ++ (count_text (ascii ", then count ") y.count y.time ++ ascii "\n")) e n → Puts d at (break_text x y) e n
  unfolding break_text
  break_some x y o f h p = rw (← f, sym (yes_of o) ∙ h) p

pub break_none : (d : List ℕ) (at : ℕ) (x y : Record) (o : Result Bool Refusal) → judged_in o ≡ follows_for x y → result_unwrap_or o false ≡ true → Puts d at (break_text x y) d at
unfolding break_text
break_none d at x y o f h = rw (← f, sym (yes_of o) ∙ h) (puts_none d at)
