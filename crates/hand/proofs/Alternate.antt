-- The spares of two queues that could take each of them: a queue that gets one was ahead of the other and is behind it then, and one to the
-- third leaves them as they were. Assumes nothing.
use Prim.Native.Nat.{ℕ, zero, suc, ◌+◌, ◌-◌, ◌*◌, ◌/◌, ◌%◌, ◌<◌, ◌≤◌}
use mathlib.Core.Path.{◌≡◌, refl, sym, ap, ◌∙◌}
use mathlib.Core.Bool.{Bool, true, false, true≢false}
use mathlib.Core.List.{List, [], ◌∷◌}
use native.Mathlib.Omega.{arith}
use borrow.Author.Tests.{lt-ltb, le-ltb}
use lib.Dec.{ltb}
use lib.ListN.{length}
use Rattle.laws.specs.Pick.{pick}
use Rattle.laws.proofs.Table.{below}
use Rattle.hand.specs.Settings.{at}
use Rattle.hand.specs.Hand.{free, give, given_to, turn_of, first_free, taker, give_one, takers, spread, hand_out, count_of, room_of, cap_of, shares_met, spare_ids, plan_for}
use Rattle.hand.specs.Spares.{plan_at, Below, BothBelow, steps_to, ahead, Alternate}
use Rattle.hand.specs.declared.Three.{Three}
use Rattle.hand.specs.declared.Plan.{Plan}
use Rattle.hand.specs.declared.Settings.{Settings}
use Rattle.hand.proofs.Steps.{count_append, takers_next, spread_next}
use Rattle.hand.proofs.Served.{each, bump_up, Step, gave, full, step}

-- ---- the turn is u, and the queue k steps on gets the spare, since the k before it are at their caps. Neither i nor j is one of these k
unfoldable of_first : ℕ → ℕ → ℕ → ℕ → ℕ
of_first u k i j = pick (ltb (steps_to u i) k) 0 (pick (ltb (steps_to u j) k) 0 (count_of i ((u + k) % 3 ∷ []) + ahead i j (((u + k) % 3 + 1) % 3)))

unfoldable of_second : ℕ → ℕ → ℕ → ℕ → ℕ
of_second u k i j = pick (ltb (steps_to u i) k) 0 (pick (ltb (steps_to u j) k) 0 (count_of j ((u + k) % 3 ∷ []) + ahead i j u))

-- the one test: antt computes it for each turn, number of steps and pair of queues
one_spare : (e : ℕ) → e < 81 → of_first (e / 27) (e / 9 % 3) (e / 3 % 3) (e % 3) ≡ of_second (e / 27) (e / 9 % 3) (e / 3 % 3) (e % 3)
unfolding of_first of_second count_of ahead steps_to
one_spare = below (λ e. of_first (e / 27) (e / 9 % 3) (e / 3 % 3) (e % 3)) (λ e. of_second (e / 27) (e / 9 % 3) (e / 3 % 3) (e % 3)) 81 tt

each_spare : (u k i j : ℕ) → u < 3 → k < 3 → i < 3 → j < 3 → of_first u k i j ≡ of_second u k i j
each_spare u k i j hu hk hi hj =
    let e = u * 27 + k * 9 + i * 3 + j in
    let t = one_spare e (omega arith) in
    let a : e / 27 ≡ u = omega arith in
    let b : e / 9 % 3 ≡ k = omega arith in
    let c : e / 3 % 3 ≡ i = omega arith in
    let d : e % 3 ≡ j = omega arith in
    cc

-- queue v gets it, and t is a turn for which the same of the two is first as for u
gets : (u k i j v t : ℕ) → u < 3 → k < 3 → i < 3 → j < 3 → k ≤ steps_to u i → k ≤ steps_to u j → v ≡ (u + k) % 3 → ahead i j u ≡ ahead i j t
    → count_of i (v ∷ []) + ahead i j ((v + 1) % 3) ≡ count_of j (v ∷ []) + ahead i j t
unfolding of_first of_second
gets u k i j v t hu hk hi hj li lj ev et =
    rw (ev, ← et) (neither _ _ _ _ (le-ltb _ _ li) (le-ltb _ _ lj) (each_spare u k i j hu hk hi hj))
  where
    neither : (a b : Bool) (x y : ℕ) → a ≡ false → b ≡ false → pick a 0 (pick b 0 x) ≡ pick a 0 (pick b 0 y) → x ≡ y
    neither true b x y ea eb e = absurd (true≢false ea)
    neither false true x y ea eb e = absurd (true≢false eb)
    neither false false x y ea eb e = e

-- a queue that is below its cap is not one that is at it
differ : (cap : Three) (g : Plan) (i u : ℕ) → free cap g i ≡ true → free cap g u ≡ false → i ≡ u → ⊥
differ cap g i u h e z = true≢false (sym h ∙ ap (free cap g) z ∙ e)

-- only the turn's rest by 3 counts
ahead_mod : (i j t : ℕ) → ahead i j (t % 3) ≡ ahead i j t
unfolding ahead steps_to
ahead_mod i j t = let e : t % 3 % 3 ≡ t % 3 = omega arith in rw e

pub ahead_one : (i j t : ℕ) → ahead i j t ≤ 1
unfolding ahead
ahead_one i j t = go (ltb (steps_to t i) (steps_to t j))
  where
    go : (b : Bool) → pick b 1 0 ≤ 1
    go true = omega arith
    go false = omega arith

-- ---- one spare, where both are below their caps
module _ (cap : Three) (g : Plan) (i j : ℕ) (hi : i < 3) (hj : j < 3) (fi : free cap g i ≡ true) (fj : free cap g j ≡ true) where
  one_alike : count_of i (taker cap g) + ahead i j (give_one cap g).turn ≡ count_of j (taker cap g) + ahead i j g.turn
  unfolding give_one given_to taker first_free give steps_to
  one_alike = go (turn_of g) (omega arith) (ahead_mod i j g.turn) _ refl _ refl _ refl
    where
      go : (u : ℕ) → u < 3 → ahead i j u ≡ ahead i j g.turn → (p : Bool) → free cap g u ≡ p → (q : Bool) → free cap g ((u + 1) % 3) ≡ q
          → (r : Bool) → free cap g ((u + 2) % 3) ≡ r
          → count_of i (pick p (u ∷ []) (pick q ((u + 1) % 3 ∷ []) (pick r ((u + 2) % 3 ∷ []) [])))
          + ahead i j (given_to (pick p (u ∷ []) (pick q ((u + 1) % 3 ∷ []) (pick r ((u + 2) % 3 ∷ []) []))) g).turn
          ≡ count_of j (pick p (u ∷ []) (pick q ((u + 1) % 3 ∷ []) (pick r ((u + 2) % 3 ∷ []) []))) + ahead i j g.turn
      go u h z true ep q eq r er = gets u 0 i j u g.turn h (omega arith) hi hj (omega arith) (omega arith) (omega arith) z
      go u h z false ep true eq r er =
          let a = differ cap g i u fi ep in
          let b = differ cap g j u fj ep in
          gets u 1 i j ((u + 1) % 3) g.turn h (omega arith) hi hj (omega arith) (omega arith) refl z
      go u h z false ep false eq true er =
          let a = differ cap g i u fi ep in
          let b = differ cap g j u fj ep in
          let c = differ cap g i ((u + 1) % 3) fi eq in
          let d = differ cap g j ((u + 1) % 3) fj eq in
          gets u 2 i j ((u + 2) % 3) g.turn h (omega arith) hi hj (omega arith) (omega arith) refl z
      go u h z false ep false eq false er =
          let a = differ cap g i u fi ep in
          let c = differ cap g i ((u + 1) % 3) fi eq in
          absurd (differ cap g i ((u + 2) % 3) fi er (omega arith))

-- where none is handed out nothing moves
none_alike : (cap : Three) (g : Plan) (i j : ℕ) → taker cap g ≡ []
    → count_of i (taker cap g) + ahead i j (give_one cap g).turn ≡ count_of j (taker cap g) + ahead i j g.turn
unfolding count_of give_one given_to
none_alike cap g i j e = rw e

is_free : (cap : Three) (g : Plan) (i : ℕ) → at g.packets i < at cap i → free cap g i ≡ true
unfolding free
is_free cap g i h = lt-ltb _ _ h

-- ---- the spares of a frame
no_room : (cap : Three) (g : Plan) (i j : ℕ) → count_of i (takers 0 cap g) + ahead i j (spread 0 cap g).turn ≡ count_of j (takers 0 cap g) + ahead i j g.turn
unfolding takers spread given_to count_of
no_room cap g i j = refl

spread_alike : (n : ℕ) (cap : Three) (g : Plan) (i j : ℕ) → i < 3 → j < 3
    → ((m : ℕ) → m < n → 0 < length (taker cap (spread m cap g)) → (at (spread m cap g).packets i < at cap i) × (at (spread m cap g).packets j < at cap j))
    → count_of i (takers n cap g) + ahead i j (spread n cap g).turn ≡ count_of j (takers n cap g) + ahead i j g.turn
spread_alike zero cap g i j hi hj both = no_room cap g i j
spread_alike (suc n) cap g i j hi hj both =
    let ids = takers n cap g in
    let s = spread n cap g in
    let a : count_of i ids + ahead i j s.turn ≡ count_of j ids + ahead i j g.turn = spread_alike n cap g i j hi hj (λ m h. both m (omega arith)) in
    let b : count_of i (taker cap s) + ahead i j (give_one cap s).turn ≡ count_of j (taker cap s) + ahead i j s.turn = go (taker cap s) refl in
    rw (takers_next n cap g, spread_next n cap g) (omega (arith, a, b, count_append i ids (taker cap s), count_append j ids (taker cap s)))
  where
    go : (more : List ℕ) → taker cap (spread n cap g) ≡ more
        → count_of i (taker cap (spread n cap g)) + ahead i j (give_one cap (spread n cap g)).turn
        ≡ count_of j (taker cap (spread n cap g)) + ahead i j (spread n cap g).turn
    go [] e = none_alike cap (spread n cap g) i j e
    go (x ∷ more) e =
        let k = both n (omega arith) (rw e (omega arith)) in
        one_alike cap (spread n cap g) i j hi hj (is_free cap (spread n cap g) i k.0) (is_free cap (spread n cap g) j k.1)

pub alternate : (s : Settings) (w : Three) (turn i j : ℕ) → i < 3 → j < 3 → BothBelow s w turn i j → Alternate s w turn i j
unfolding plan_for hand_out spare_ids plan_at
alternate s w turn i j hi hj both = spread_alike (room_of s w) (cap_of s w) (shares_met s.share w turn) i j hi hj both

-- ---- packets only grow: who is below at the frame's end was below at each spare
step_up : (cap : Three) (g : Plan) (i : ℕ) → at g.packets i ≤ at (give_one cap g).packets i
unfolding give
step_up cap g i = go (give_one cap g) (taker cap g) (step cap g)
  where
    go : (r : Plan) (ids : List ℕ) → Step cap g r ids → at g.packets i ≤ at r.packets i
    go r ids (gave k h b) = let u = bump_up g.packets k in each (λ x y z v. x ≤ y) g.packets r.packets cap cap i u.0 u.1 u.2
    go r ids (full w) = omega arith

spread_up : (d m n : ℕ) (cap : Three) (g : Plan) (i : ℕ) → n ≡ m + d → at (spread m cap g).packets i ≤ at (spread n cap g).packets i
spread_up zero m n cap g i e = let same : n ≡ m = omega arith in rw same (omega arith)
spread_up (suc d) m n cap g i e =
    let more : n ≡ suc (m + d) = omega arith in
    rw (more, spread_next (m + d) cap g) (omega (arith, spread_up d m (m + d) cap g i refl, step_up cap (spread (m + d) cap g) i))

pub below_before : (s : Settings) (w : Three) (turn i : ℕ) → at (plan_for s w turn).packets i < at (cap_of s w) i → (m : ℕ) → m < room_of s w → Below s w turn m i
unfolding plan_for hand_out plan_at
below_before s w turn i h m l =
    let u = spread_up (room_of s w - m) m (room_of s w) (cap_of s w) (shares_met s.share w turn) i (omega arith) in
    omega (arith, h, u)
