-- Spares one at a time: those of room n + 1 are those of room n and then one more. Assumes nothing.
use Prim.Native.Nat.{ℕ, zero, suc, ◌+◌}
use mathlib.Core.Path.{◌≡◌, refl, sym, ap, ◌∙◌}
use native.Mathlib.Omega.{arith}
use mathlib.Core.List.{List, [], ◌∷◌, ◌++◌, append-nil, append_assoc}
use Rattle.hand.specs.Hand.{give, given_to, taker, give_one, takers, spread, count_of}
use Rattle.hand.specs.declared.Three.{Three}
use Rattle.hand.specs.declared.Plan.{Plan}

pub given_append : (xs ys : List ℕ) (g : Plan) → given_to (xs ++ ys) g ≡ given_to ys (given_to xs g)
unfolding given_to
given_append [] ys g = refl
given_append (x ∷ xs) ys g = given_append xs ys (give g x)

-- none
pub spread_none : (cap : Three) (g : Plan) → spread 0 cap g ≡ g
unfolding spread takers given_to
spread_none cap g = refl

-- the first of them is one spare
first_spread : (n : ℕ) (cap : Three) (g : Plan) → spread (suc n) cap g ≡ spread n cap (give_one cap g)
unfolding spread takers give_one
first_spread n cap g = given_append (taker cap g) (takers n cap (given_to (taker cap g) g)) g

pub takers_next : (n : ℕ) (cap : Three) (g : Plan) → takers (suc n) cap g ≡ takers n cap g ++ taker cap (spread n cap g)
unfolding takers
takers_next zero cap g = append-nil (taker cap g) ∙ ap (taker cap) (sym (spread_none cap g))
takers_next (suc n) cap g =
    ap (λ (ids : List ℕ). taker cap g ++ ids) (takers_next n cap (give_one cap g))
    ∙ sym (append_assoc (taker cap g) (takers n cap (give_one cap g)) (taker cap (spread n cap (give_one cap g))))
    ∙ ap (λ (r : Plan). (taker cap g ++ takers n cap (give_one cap g)) ++ taker cap r) (sym (first_spread n cap g))

pub spread_next : (n : ℕ) (cap : Three) (g : Plan) → spread (suc n) cap g ≡ give_one cap (spread n cap g)
unfolding spread give_one
spread_next n cap g =
    ap (λ (ids : List ℕ). given_to ids g) (takers_next n cap g) ∙ given_append (takers n cap g) (taker cap (given_to (takers n cap g) g)) g

pub count_append : (i : ℕ) (xs ys : List ℕ) → count_of i (xs ++ ys) ≡ count_of i xs + count_of i ys
unfolding count_of
count_append i [] ys = omega arith
count_append i (x ∷ xs) ys = omega (arith, count_append i xs ys)
