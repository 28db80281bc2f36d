-- Loading a unit: the refusals by the way taken, and what the call answers (C5: accepted exactly if). Assumes nothing.
use Prim.Native.Nat.{ℕ, ◌+◌, ◌≤◌}
use mathlib.Core.Path.{◌≡◌, sym, ap}
use mathlib.Core.Bool.{false, not}
use native.Mathlib.Omega.{arith}
use borrow.Author.Tests.{eq-eqb, ne_eqb, le-ltb, lt-leb, eqb-true, eqb-false, ltb-false, leb-false, not-false}
use lib.Dec.{ltb, leb, eqb, lit<}
use Rattle.laws.specs.Refuse.{refused_with}
use Rattle.laws.proofs.Refuse.{free, accepted}
use Rattle.hand.specs.Settings.{settings_for}
use Rattle.hand.specs.declared.Settings.{Settings}
use Rattle.hand.proofs.Allowed.{allowed}
use Rattle.queue.specs.Queue.{unsent}
use Rattle.laws.proofs.Flags.{or_false}
use Rattle.sender.specs.State.{queue_of, broken_state}
use Rattle.sender.specs.Load.{full, load_tests}
use Rattle.sender.specs.Private.{Accepted}
use Rattle.sender.specs.declared.Front.{Front}

-- ---- the refusals
pub p_fits : (g : Settings) → 0 ≡ settings_for g → g.p ≤ 255
p_fits g e = (allowed g (sym e)).high

module _ (g : Settings) (s : Front) (id n room : ℕ) where
  -- what acceptance says
  pub record Passed : Type 0 where
    pub allowed_in : settings_for g ≡ 0
    pub fine : broken_state g.p s ≡ false
    pub unit : Accepted s id n room

  pub passed : refused_with (load_tests g s id n room) ≡ 0 → Passed
  unfolding load_tests full
  passed e =
      let t = free (load_tests g s id n room) (lit< tt, (lit< tt, (lit< tt, (lit< tt, (lit< tt, (lit< tt, (lit< tt, (lit< tt, tt)))))))) e in
      let z : n ≡ 0 → ⊥ = eqb-false n 0 t.1.1.1.1.0 in
      let i : id ≤ 2 = ltb-false 2 id t.1.1.1.1.1.1.0 in
      let f = or_false (leb 8 (queue_of s id).count) (ltb 4096 (n + unsent (queue_of s id))) t.1.1.1.1.1.1.1.0 in
      record {
        allowed_in = eqb-true (settings_for g) 0 (not-false (eqb (settings_for g) 0) t.0);
        fine = t.1.0;
        unit =
            record {
              one = omega arith;
              most = ltb-false 4096 n t.1.1.1.1.1.0;
              id_in = omega arith;
              count_in = leb-false 8 (queue_of s id).count f.0;
              fits = ltb-false 4096 (n + unsent (queue_of s id)) f.1;
              whole = eqb-true room 12288 (not-false (eqb room 12288) t.1.1.0);
            };
      }

  -- and the other way: C5
  pub passed_back : Passed → refused_with (load_tests g s id n room) ≡ 0
  unfolding load_tests full
  passed_back k =
      let u = k.unit in
      let o = u.one in
      let m = u.most in
      let i = u.id_in in
      accepted (load_tests g s id n room) (
        ap not (eq-eqb (settings_for g) 0 k.allowed_in),
        (
          k.fine,
          (
            ap not (eq-eqb room 12288 u.whole),
            (
              le-ltb 65528 n (omega arith),
              (
                ne_eqb n 0 (λ z. omega arith),
                (
                  le-ltb 4096 n m,
                  (le-ltb 2 id (omega arith), (simp (lt-leb 8 (queue_of s id).count u.count_in, le-ltb 4096 (n + unsent (queue_of s id)) u.fits), tt)),
                ),
              ),
            ),
          ),
        ),
      )
