-- The test of a record's fields lets through exactly those that fit their bits. Assumes nothing.
use Prim.Native.Nat.{ℕ, ◌^◌}
use mathlib.Core.Bool.{false}
use mathlib.Core.Path.{◌≡◌, refl}
use mathlib.Core.List.{List, [], ◌∷◌}
use native.Mathlib.Omega.{arith}
use borrow.Author.Tests.{lt-leb, leb-false}
use lib.Dec.{leb}
use lib.ListN.{length}
use Rattle.laws.specs.Fields.{Fit}
use Rattle.laws.proofs.Flags.{or_false}
use Rattle.fac.specs.declared.Fac.{Fac}
use Rattle.fac.specs.Channel.{widths, in_order, exceeds, is_too_large}
use Rattle.fac.specs.Bounds.{ChannelFits, ServiceFits}

fit_of : (ws vs : List ℕ) → length ws ≡ length vs → exceeds ws vs ≡ false → Fit ws vs
fit_of [] [] l e = tt
fit_of [] (v ∷ vs) l e = absurd (omega arith)
fit_of (w ∷ ws) [] l e = absurd (omega arith)
fit_of (w ∷ ws) (v ∷ vs) l e =
    let p = or_false (leb (2 ^ w) v) (exceeds ws vs) e in
    (leb-false _ _ p.0, fit_of ws vs (omega arith) p.1)

pub of_fit : (ws vs : List ℕ) → Fit ws vs → exceeds ws vs ≡ false
of_fit [] vs f = refl
of_fit (w ∷ ws) [] f = refl
of_fit (w ∷ ws) (v ∷ vs) f = rw (lt-leb _ _ f.0) (of_fit ws vs f.1)

module _ (f : Fac) (e : is_too_large f ≡ false) where
  pub fits : Fit widths (in_order f)
  unfolding is_too_large
  fits = fit_of widths (in_order f) refl e

  pub channel : ChannelFits f
  channel =
      let g = fits in
      record {
        base = g.0;
        identity = g.1.0;
        rm = g.1.1.0;
        occupancy = g.1.1.1.0;
        interleaver = g.1.1.1.1.0;
        msc = g.1.1.1.1.1.0;
        sdc = g.1.1.1.1.1.1.0;
        services = g.1.1.1.1.1.1.1.0;
        reconfiguration = g.1.1.1.1.1.1.1.1.0;
        channel = g.1.1.1.1.1.1.1.1.1.0;
      }

  pub service : ServiceFits f
  service =
      let h = fits.1.1.1.1.1.1.1.1.1.1 in
      record {
        service = h.0;
        short = h.1.0;
        audio_ca = h.1.1.0;
        language = h.1.1.1.0;
        audio_data = h.1.1.1.1.0;
        descriptor = h.1.1.1.1.1.0;
        data_ca = h.1.1.1.1.1.1.0;
        reserved = h.1.1.1.1.1.1.1.0;
      }
