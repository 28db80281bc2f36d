-- The digits of the milliseconds. Assumes nothing.
use Prim.Native.Nat.{ℕ, ◌+◌, ◌/◌, ◌%◌, ◌≤◌}
use mathlib.Core.List.{List, [], ◌∷◌}
use mathlib.Core.Path.{◌≡◌}
use Rattle.line_text.specs.Line.{Placed}
use Rattle.stamp_text.specs.Date.{millis_text}

pub millis_is : {d e : List ℕ} {at n : ℕ} (m a b c : ℕ) → a ≡ 48 + m / 100 % 10 → b ≡ 48 + m / 10 % 10 → c ≡ 48 + m % 10
    → (n ≤ at + 4) × Placed 4 d at (46 ∷ a ∷ b ∷ c ∷ []) e n → (n ≤ at + 4) × Placed 4 d at (millis_text m) e n
unfolding millis_text
millis_is m a b c f g h p = rw (← f, ← g, ← h) p
