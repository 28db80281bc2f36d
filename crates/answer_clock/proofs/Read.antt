-- What is read, field by field, is the value. Assumes nothing.
use Prim.Native.Nat.{ℕ}
use mathlib.Core.Path.{◌≡◌, refl}
use mathlib.Core.List.{List}
use Rattle.laws.specs.Big.{number_at}
use Rattle.clock.specs.declared.Stamp.{Stamp}
use Rattle.answer_clock.specs.Values.{on, stamp_in}

module _ (s : List ℕ) (at : ℕ) where
  pub stamp_is : (x p y q z : ℕ) → x ≡ number_at 2 s at → p ≡ on at 2 → y ≡ number_at 8 s p → q ≡ on at 10 → z ≡ number_at 2 s q
      → ◌≡◌ {A = Stamp} (record { utco = x; seconds = y; milliseconds = z }) (stamp_in s at)
  unfolding stamp_in
  stamp_is x p y q z e f g h k = rw (e, g, f, k, h) refl
