-- Tests one behind the other: the number given is that of the first list, and where nothing holds there, that of the second. Assumes nothing.
use mathlib.Core.Bool.{Bool, true, false}
use mathlib.Core.Path.{◌≡◌, refl}
use mathlib.Core.List.{List, [], ◌∷◌, ◌++◌}
use Rattle.laws.specs.Pick.{pick}
use Rattle.laws.specs.Refuse.{Test, refused_with, Real, Free}
use Rattle.laws.proofs.Refuse.{free, accepted}

pub behind : (ts us : List Test) → Free ts → refused_with (ts ++ us) ≡ refused_with us
behind [] us f = refl
behind (t ∷ ts) us f = rw f.0 (behind ts us f.1)

pub before : (ts us : List Test) → (refused_with ts ≡ 0 → ⊥) → refused_with (ts ++ us) ≡ refused_with ts
before [] us n = absurd (n refl)
before (t ∷ ts) us n = go t.holds (before ts us) n
  where
    go : (b : Bool) → ((refused_with ts ≡ 0 → ⊥) → refused_with (ts ++ us) ≡ refused_with ts) → (pick b t.number (refused_with ts) ≡ 0 → ⊥)
        → pick b t.number (refused_with (ts ++ us)) ≡ pick b t.number (refused_with ts)
    go true ih n = refl
    go false ih n = ih n

free_parts : (ts us : List Test) → Free (ts ++ us) → Free ts × Free us
free_parts [] us f = (tt, f)
free_parts (t ∷ ts) us f = let g = free_parts ts us f.1 in ((f.0, g.0), g.1)

-- nothing holds in both lists exactly if nothing holds in either
pub both_free : (ts us : List Test) → Real (ts ++ us) → refused_with (ts ++ us) ≡ 0 → (refused_with ts ≡ 0) × Free us
both_free ts us r e = let f = free_parts ts us (free (ts ++ us) r e) in (accepted ts f.0, f.1)
