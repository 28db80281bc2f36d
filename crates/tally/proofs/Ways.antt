-- The ways through the code, in its own words. Assumes nothing.
use Rattle.std.proofs.Common.{◌≡◌, ℕ, ◌+◌, ◌%◌, ◌^◌, Bool, true, false, get_or, set, replicate, refl, ◌∙◌}
use Rattle.std.specs.Prelude.{Option, None, Some}
use Rattle.std.specs.Option.{option_or}
use Rattle.mdi.specs.declared.Answer.{Answer}
use Rattle.clock.specs.declared.Stamp.{Stamp}
use Rattle.tally.specs.declared.Tally.{Tally}
use Rattle.tally.specs.Tally.{no_tally, earlier, more_for, counted_for}

pub none_is : record { packets = 0; numbers = replicate 12 0; breaks = 0; first = None; last = None } ≡ no_tally
unfolding no_tally
none_is = refl

pub or_is : (s t : Option Stamp) → option_or s t ≡ earlier s t
unfolding earlier
or_is None t = refl
or_is (Some a) t = refl

pub more_yes : (n r : ℕ) (b : Bool) → b ≡ true → r ≡ (n + 1) % 2 ^ 64 → r ≡ more_for n b
unfolding more_for
more_yes n r b e h = rw e h

pub more_no : (n : ℕ) (b : Bool) → b ≡ false → n ≡ more_for n b
unfolding more_for
more_no n b e = rw e refl

pub count_is : (t : Tally) (a : Answer) (b : Bool) (p k n : ℕ) (f l : Option Stamp) → p ≡ (t.packets + 1) % 2 ^ 64 → k ≡ (get_or t.numbers (a.number % 12) 0 + 1) % 2 ^ 64
    → n ≡ more_for t.breaks b → f ≡ option_or t.first a.content.time → l ≡ option_or a.content.time t.last
    → record { packets = p; numbers = set t.numbers (a.number % 12) k; breaks = n; first = f; last = l } ≡ counted_for t a b
unfolding counted_for
count_is t a b p k n f l e g h i j = rw (e, g, h, i ∙ or_is t.first a.content.time, j ∙ or_is a.content.time t.last) refl

pub ruleset ways = (none_is, more_yes, more_no, count_is)
