-- What a call that writes says settles its answer. Assumes nothing.
use Prim.Native.Nat.{ℕ}
use mathlib.Core.Path.{refl, ap}
use Rattle.refusal.proofs.Told.{Tells}
use Rattle.moves.specs.Wrote.{Wrote, wrote_in}

pub wrote_tells : Tells {A = ℕ} {V = Wrote} wrote_in
wrote_tells =
    record { number = λ w. w.number; of_ok = λ n. refl; of_err = λ r. refl; values = λ a b e. ap (λ (w : Wrote). w.length) e }
