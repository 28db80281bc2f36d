-- Each promise settles its call: two outcomes that meet it for the same input are equal (01, "Acceptance of the promises"). Assumes nothing.
use Prim.Native.Nat.{ℕ}
use mathlib.Core.Path.{◌≡◌, refl, sym, ap, ◌∙◌}
use mathlib.Core.Bool.{true≢false}
use mathlib.Core.List.{List}
use Rattle.std.specs.Prelude.{Option, Some, None}
use Rattle.laws.specs.Settle.{Settles}
use Rattle.repeats.specs.Repeats.{Repeat, repeat_in, repeat_for}

one_answer : (a b : Option ℕ) → repeat_in a ≡ repeat_in b → a ≡ b
one_answer None None e = refl
one_answer None (Some y) e = absurd (true≢false (sym (ap (λ (r : Repeat). r.found) e)))
one_answer (Some x) None e = absurd (true≢false (ap (λ (r : Repeat). r.found) e))
one_answer (Some x) (Some y) e = ap Some (ap (λ (r : Repeat). r.place) e)

pub first_again : Settles (λ (p : List ℕ) (r : Option ℕ). repeat_in r ≡ repeat_for p)
first_again p x y a b = one_answer x y (a ∙ sym b)
