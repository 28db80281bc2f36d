-- Fair spares of a log without the calls that have another p are fair spares of the whole log, where p stands. Assumes nothing.
use Prim.Native.Nat.{ℕ, ◌+◌, ◌-◌, ◌<◌, ◌≤◌, min}
use mathlib.Core.Path.{◌≡◌, refl, sym, ap, ap₂, ◌∙◌, subst}
use mathlib.Core.List.{List, ◌++◌}
use mathlib.Core.Logic.{◌↔◌}
use native.Mathlib.Omega.{arith}
use borrow.Author.Tests.{ne_eqb}
use lib.Dec.{eqb}
use Rattle.laws.specs.Pick.{pick}
use Rattle.hand.specs.Settings.{at}
use Rattle.hand.specs.Spares.{BothBelow}
use Rattle.hand.specs.declared.Three.{Three}
use Rattle.hand.specs.declared.Settings.{Settings}
use Rattle.demand.specs.Run.{Act, load, frame, Answer}
use Rattle.demand.specs.Log.{Event, Stands}
use Rattle.demand.proofs.Parts.{stands_front, stands_back}
use Rattle.fair.specs.Logged.{WrittenAt, Throughout, of_written, all_written, reported_of, beyond_of, BusyIn, StillIn, LevelIn, FairIn, FairLog}
use Rattle.layers.proofs.Without.{events_with, with_append, along, waiting_with_law, three_with, turn_with}

module _ (p : ℕ) where
  -- ---- what is said of each frame that was written, where it is the same without those calls before it
  module _ (P : Settings → Answer → List Event → Type 0)
      (same : (g : Settings) (b : Answer) (before : List Event) → Stands p before → P g b (events_with p before) ≡ P g b before) where
    one_same : (a : Act) (b : Answer) (before : List Event) → Stands p before → WrittenAt P (events_with p before) a b ≡ WrittenAt P before a b
    one_same (load g id unit) b before st = refl
    one_same (frame g out) b before st = ap (λ (T : Type 0). b.number ≡ 0 → T) (same g b before st)

    nothing_said : (a : Act) (b : Answer) (before : List Event) → (b.number ≡ 0 → ⊥) → WrittenAt P before a b
    nothing_said (load g id unit) b before n = tt
    nothing_said (frame g out) b before n = λ z. absurd (n z)

    throughout_with : (es before : List Event) → Stands p before → Stands p es → Throughout P before es ↔ Throughout P (events_with p before) (events_with p es)
    throughout_with =
        along p (λ before es bs fs. Throughout P before es ↔ Throughout P bs fs) (λ before. (λ t. t, λ t. t))
        (λ before e es fs st k.
        let q = one_same e.act e.answer before st in
        (λ t. (subst (λ (T : Type 0). T) (sym q) t.0, k.0 t.1), λ t. (subst (λ (T : Type 0). T) q t.0, k.1 t.1)))
        (λ before e es fs n k. (λ t. k.0 t.1, λ t. (nothing_said e.act e.answer before n, k.1 t)))

  -- ---- what is added up of them
  module _ (f : Settings → Answer → List Event → ℕ)
      (same : (g : Settings) (b : Answer) (before : List Event) → Stands p before → f g b (events_with p before) ≡ f g b before) where
    part_same : (a : Act) (b : Answer) (before : List Event) → Stands p before → of_written f (events_with p before) a b ≡ of_written f before a b
    unfolding of_written
    part_same (load g id unit) b before st = refl
    part_same (frame g out) b before st = ap (λ (n : ℕ). pick (eqb b.number 0) n 0) (same g b before st)

    no_part : (a : Act) (b : Answer) (before : List Event) → (b.number ≡ 0 → ⊥) → of_written f before a b ≡ 0
    unfolding of_written
    no_part (load g id unit) b before n = refl
    no_part (frame g out) b before n = simp (ne_eqb b.number 0 n)

    sums_with : (es before : List Event) → Stands p before → Stands p es → all_written f (events_with p before) (events_with p es) ≡ all_written f before es
    unfolding all_written
    sums_with =
        along p (λ before es bs fs. all_written f bs fs ≡ all_written f before es) (λ before. refl)
        (λ before e es fs st k. ap₂ (λ (m n : ℕ). m + n) (part_same e.act e.answer before st) k)
        (λ before e es fs n k. omega (arith, k, no_part e.act e.answer before n))

  -- ---- a stretch
  module _ (i j : ℕ) (before stretch : List Event) (sb : Stands p before) (st : Stands p stretch) where
    busy_with : BusyIn p i j before stretch ↔ BusyIn p i j (events_with p before) (events_with p stretch)
    busy_with =
        throughout_with _ (λ g b es s. ap₂ (λ (w : Three) (t : ℕ). BothBelow g w t i j) (three_with p es s) (turn_with p es s)) stretch before sb st

    still_with : StillIn p i j before stretch ↔ StillIn p i j (events_with p before) (events_with p stretch)
    still_with =
        throughout_with _
        (λ g b es s.
        ap₂ (λ (v w : ℕ). (at b.packets i < min v (at g.ceiling i)) × (at b.packets j < min w (at g.ceiling j))) (waiting_with_law p es s i) (waiting_with_law p es s j))
        stretch before sb st

    level_with : LevelIn p i j before stretch ↔ LevelIn p i j (events_with p before) (events_with p stretch)
    level_with =
        throughout_with _
        (λ g b es s.
        ap₂ (λ (v w : ℕ). (at g.share i ≡ at g.share j) × (at g.share i ≤ v) × (at g.share j ≤ w)) (waiting_with_law p es s i) (waiting_with_law p es s j))
        stretch before sb st

    beyond_with : (q : ℕ) → all_written (beyond_of p q) (events_with p before) (events_with p stretch) ≡ all_written (beyond_of p q) before stretch
    beyond_with q =
        sums_with (beyond_of p q) (λ g b es s. ap (λ (w : ℕ). at b.packets q - min (at g.share q) w) (waiting_with_law p es s q)) stretch before sb st

    reported_with : (q : ℕ) → all_written (reported_of q) (events_with p before) (events_with p stretch) ≡ all_written (reported_of q) before stretch
    reported_with q = sums_with (reported_of q) (λ g b es s. refl) stretch before sb st

    fair_in : FairIn p i j (events_with p before) (events_with p stretch) → FairIn p i j before stretch
    fair_in k =
        record {
          spares = λ t. rw (sym (beyond_with i), sym (beyond_with j)) (k.spares (busy_with.0 t));
          packets = λ t l. rw (sym (reported_with i), sym (reported_with j)) (k.packets (busy_with.0 t) (level_with.0 l));
          still = λ t. busy_with.1 (k.still (still_with.0 t));
        }

  pub fair_all : (es : List Event) → Stands p es → FairLog p (events_with p es) → FairLog p es
  fair_all es st k i j hi hj before stretch behind q =
      let s = subst (Stands p) q st in
      let w = with_append p before (stretch ++ behind) ∙ ap (λ (l : List Event). events_with p before ++ l) (with_append p stretch behind) in
      fair_in i j before stretch (stands_front p before (stretch ++ behind) s) (stands_front p stretch behind (stands_back p before (stretch ++ behind) s))
      (k i j hi hj (events_with p before) (events_with p stretch) (events_with p behind) (ap (events_with p) q ∙ w))
