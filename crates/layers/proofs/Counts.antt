-- E1 of 02, of the calls as they are: the counts stay right, and where they are right the answers are 01's. Assumes nothing.
use Prim.Native.Nat.{ℕ}
use mathlib.Core.Path.{◌≡◌, refl, sym, ap, ◌∙◌, subst}
use mathlib.Core.List.{List}
use mathlib.Core.Bool.{Bool, true, false, not}
use borrow.Author.Tests.{eq-eqb}
use lib.Dec.{eqb}
use lib.ListN.{length}
use Rattle.laws.specs.Pick.{pick}
use Rattle.laws.specs.Refuse.{refused_with}
use Rattle.hand.specs.Settings.{settings_for}
use Rattle.hand.specs.Hand.{no_three}
use Rattle.hand.specs.declared.Settings.{Settings}
use Rattle.sender.specs.Load.{load_tests, loaded}
use Rattle.sender.specs.Frame.{frame_tests, framed}
use Rattle.sender.specs.Kept.{Kept, stored_of, miscounted, kept_load_tests, kept_frame_tests}
use Rattle.sender.specs.Rings.{front_of, kept_of, ring_loaded, ring_framed, strayed, ring_load_tests, ring_load_number, ring_load_for, ring_frame_tests, ring_frame_number, ring_frame_for}
use Rattle.sender.specs.declared.Sender.{Sender}
use Rattle.sender.specs.declared.Framed.{Framed}
use Rattle.sender.proofs.Kept.{right_counts}
use Rattle.sender.proofs.Going.{ring_frame_says}
use Rattle.demand.specs.Run.{Act, load, frame, settings_of}
use Rattle.demand.specs.Log.{waiting_at}
use Rattle.layers.specs.KeptRun.{KeptDesk, fresh_kept_desk}
use Rattle.layers.specs.Run.{RingDesk, after_ring, answer_ring}
use Rattle.layers.specs.Rings.{Same}
use Rattle.layers.specs.Counts.{Right, Stays, CountsAreKept, DisplayIsTrue}
use Rattle.layers.proofs.Same.{one_call}
use Rattle.layers.proofs.Stays.{RightKept, kept_right}
use Rattle.layers.proofs.Stays as old
use Rattle.layers.proofs.KeptCounts.{fresh_right, run_right, kept_display}
use Rattle.layers.proofs.Rings.{refused_same, log_is, state_is, stands_is}

-- ---- an accepted call
accepted_right : (a : Act) (y : RingDesk) → (answer_ring a y).number ≡ 0 → Right (settings_of a).p (after_ring a y).state
unfolding answer_ring after_ring ring_load_for ring_loaded ring_frame_for ring_framed
accepted_right (load g id unit) y z =
    subst (λ (s : Sender). Right g.p s) (sym (ap (λ (b : Bool). pick b (ring_loaded g.p y.state id (length unit)) y.state) (eq-eqb _ 0 z)))
    (kept_right g.p (loaded (front_of y.state) id (length unit)))
accepted_right (frame g out) y z =
    subst (λ (f : Framed). Right g.p f.next)
    (sym
    (ap (λ (b : Bool). pick b (ring_framed g y.state) (record { number = ring_frame_number g y.state y.store out; next = y.state; packets = no_three; spares = 0; filler = 0 }))
    (eq-eqb _ 0 (sym (ring_frame_says g y.state y.store out) ∙ z))))
    (kept_right g.p (framed g (front_of y.state)).next)

-- ---- a wrong count
after_17 : (b t m : Bool) (x : ℕ) → m ≡ true → ◌≡◌ {A = ℕ} (pick (not b) 13 (pick t 17 (pick (not b) 13 (pick m 17 x)))) (pick b 17 13)
after_17 true true m x h = refl
after_17 true false m x h = ap (λ (c : Bool). pick c 17 x) h
after_17 false t m x h = refl

module _ (g : Settings) (s : Sender) where
  load_wrong : (id : ℕ) (unit store : List ℕ) → miscounted g.p (kept_of s) ≡ true → ring_load_number g s id unit store ≡ pick (eqb (settings_for g) 0) 17 13
  unfolding ring_load_number ring_load_tests kept_load_tests
  load_wrong id unit store h =
      after_17 (eqb (settings_for g) 0) (strayed s) (miscounted g.p (kept_of s)) (refused_with (load_tests g (front_of s) id (length unit) (length store))) h

  frame_wrong : (store out : List ℕ) → miscounted g.p (kept_of s) ≡ true → ring_frame_number g s store out ≡ pick (eqb (settings_for g) 0) 17 13
  unfolding ring_frame_number ring_frame_tests kept_frame_tests
  frame_wrong store out h =
      after_17 (eqb (settings_for g) 0) (strayed s) (miscounted g.p (kept_of s)) (refused_with (frame_tests g (front_of s) (length store) (length out))) h

wrong_found : (p : ℕ) (s : Sender) → (Right p s → ⊥) → miscounted p (kept_of s) ≡ true
wrong_found p s n = go (miscounted p (kept_of s)) refl
  where
    go : (b : Bool) → miscounted p (kept_of s) ≡ b → miscounted p (kept_of s) ≡ true
    go true e = e
    go false e = absurd (n (right_counts p (kept_of s) e))

number_wrong : (a : Act) (y : RingDesk) → (Right (settings_of a).p y.state → ⊥) → (answer_ring a y).number ≡ pick (eqb (settings_for (settings_of a)) 0) 17 13
unfolding answer_ring ring_load_for
number_wrong (load g id unit) y n = load_wrong g y.state id unit y.store (wrong_found g.p y.state n)
number_wrong (frame g out) y n = ring_frame_says g y.state y.store out ∙ frame_wrong g y.state y.store out (wrong_found g.p y.state n)

-- ---- E1
stays : (a : Act) (x : KeptDesk) (y : RingDesk) → Same x y → Right (settings_of a).p y.state → Stays a x y
stays a x y k r =
    let c = one_call a x y k in
    let o = old.stays a x (subst (RightKept (settings_of a).p) (sym k.state) r) in
    record { answer = c.answer ∙ o.answer; desk = o.desk; desks = c.desks }

pub counts_are_kept : CountsAreKept
counts_are_kept = record {
  always = λ p acts store st. subst (RightKept p) (state_is acts store) (run_right p acts (fresh_kept_desk store) (stands_is acts store p st) (fresh_right p));
  accepted = accepted_right;
  refused = refused_same;
  stays = stays;
  wrong = number_wrong;
}

pub display_is_true : DisplayIsTrue
display_is_true p acts store hs st id h =
    ap (λ (k : Kept). stored_of k id) (sym (state_is acts store))
    ∙ kept_display p acts store hs (stands_is acts store p st) id h
    ∙ ap (waiting_at p id) (log_is acts store)
