-- One call of a run from fresh in which p stands: the calls before it as the state has them, its answer, the calls behind it. Assumes nothing.
use Prim.Native.Nat.{ℕ, suc}
use mathlib.Core.Path.{◌≡◌, refl, sym, ap, ap₂, ◌∙◌, subst}
use mathlib.Core.List.{List, [], ◌∷◌, ◌++◌}
use lib.ListN.{length, drop, get_or}
use native.Mathlib.Omega.{arith}
use Rattle.demand.specs.Run.{Act, Desk, fresh_desk, settings_of, after, run, Answer, answer, answers}
use Rattle.demand.specs.Log.{Event, events, log, Stands}
use Rattle.demand.specs.Reported.{turn_at}
use Rattle.demand.proofs.Seen.{event_of, log_append, run_append}
use Rattle.demand.proofs.Mirror.{Mirror, mirror}
use Rattle.demand.proofs.Turn.{turn_seen}

-- ---- a run in parts
pub record Parted (acts : List Act) (x : Desk) (es fs : List Event) : Type 0 where
  pub first : List Act
  pub second : List Act
  pub front : es ≡ log first x
  pub back : fs ≡ log second (run first x)

pub parted : (acts : List Act) (x : Desk) (es fs : List Event) → log acts x ≡ es ++ fs → Parted acts x es fs
unfolding events answers run
parted acts x [] fs q = record { first = []; second = acts; front = refl; back = sym q }
parted [] x (e ∷ es) fs q = let z : 0 ≡ suc (length (es ++ fs)) = ap length q in absurd (omega arith)
parted (a ∷ acts) x (e ∷ es) fs q =
    let r = parted acts (after a x) es fs (ap (drop 1) q) in
    let h : event_of a x ≡ e = ap (λ (l : List Event). get_or l 0 e) q in
    record { first = a ∷ r.first; second = r.second; front = ap₂ (λ (d : Event) (ds : List Event). d ∷ ds) (sym h) r.front; back = r.back }

pub stands_front : (p : ℕ) (es fs : List Event) → Stands p (es ++ fs) → Stands p es
stands_front p [] fs s = tt
stands_front p (e ∷ es) fs s = (s.0, stands_front p es fs s.1)

pub stands_back : (p : ℕ) (es fs : List Event) → Stands p (es ++ fs) → Stands p fs
stands_back p [] fs s = s
stands_back p (e ∷ es) fs s = stands_back p es fs s.1

-- ---- one call of a run from fresh
pub record Here (p : ℕ) (before : List Event) (a : Act) (b : Answer) (behind : List Event) : Type 0 where
  pub desk : Desk
  pub seen : Mirror p before desk
  pub turn : desk.state.turn ≡ turn_at p before
  pub answered : b ≡ answer a desk
  pub same : b.number ≡ 0 → (settings_of a).p ≡ p
  pub then : Mirror p (before ++ (record { act = a; answer = b } ∷ [])) (after a desk)
  pub acts : List Act
  pub rest : behind ≡ log acts (after a desk)
  pub stands : Stands p behind

module _ (p : ℕ) (acts : List Act) (store : List ℕ) (hs : length store ≡ 12288) (st : Stands p (log acts (fresh_desk store))) where
  abbrev X : Desk
  X = fresh_desk store

  pub here : (before : List Event) (a : Act) (b : Answer) (behind : List Event) → log acts X ≡ before ++ (record { act = a; answer = b } ∷ behind) → Here p before a b behind
  unfolding events answers run
  here before a b behind q =
      let r = parted acts X before (record { act = a; answer = b } ∷ behind) q in
      let s : Stands p (before ++ (record { act = a; answer = b } ∷ behind)) = subst (Stands p) q st in
      go r s r.second r.back
    where
      go : (r : Parted acts X before (record { act = a; answer = b } ∷ behind)) → Stands p (before ++ (record { act = a; answer = b } ∷ behind))
          → (second : List Act) → (record { act = a; answer = b } ∷ behind) ≡ log second (run r.first X) → Here p before a b behind
      go r s [] e = let z : suc (length behind) ≡ 0 = ap length e in absurd (omega arith)
      go r s (c ∷ rest) e =
          let y = run r.first X in
          let h : ◌≡◌ {A = Event} (record { act = a; answer = b }) (event_of c y) = ap (λ (l : List Event). get_or l 0 (record { act = a; answer = b })) e in
          let ac : a ≡ c = ap (λ (d : Event). d.act) h in
          let ab : b ≡ answer a y = ap (λ (d : Event). d.answer) h ∙ ap (λ (d : Act). answer d y) (sym ac) in
          let sb = stands_back p before (record { act = a; answer = b } ∷ behind) s in
          let sf = stands_front p before (record { act = a; answer = b } ∷ behind) s in
          let ev : ◌≡◌ {A = Event} (record { act = a; answer = b }) (event_of a y) = ap (λ (d : Answer). record { act = a; answer = d }) ab in
          let l : log (r.first ++ (a ∷ [])) X ≡ before ++ (record { act = a; answer = b } ∷ []) =
          log_append r.first (a ∷ []) X ∙ ap₂ (λ (es : List Event) (d : Event). es ++ (d ∷ [])) (sym r.front) (sym ev) in
          let m = mirror p r.first store hs (subst (Stands p) r.front sf) in
          let w : Stands p (before ++ (record { act = a; answer = b } ∷ [])) = both before sf sb.0 in
          let t = mirror p (r.first ++ (a ∷ [])) store hs (subst (Stands p) (sym l) w) in
          record {
            desk = y;
            seen = subst (λ (es : List Event). Mirror p es y) (sym r.front) m;
            turn = sym (ap (turn_at p) r.front ∙ turn_seen p r.first store hs (subst (Stands p) r.front sf));
            answered = ab;
            same = sb.0;
            then = subst (λ (es : List Event). Mirror p es (after a y)) l (subst (Mirror p (log (r.first ++ (a ∷ [])) X)) (run_append r.first (a ∷ []) X) t);
            acts = rest;
            rest = ap (drop 1) e ∙ ap (λ (d : Act). log rest (after d y)) (sym ac);
            stands = sb.1;
          }
        where
          both : (es : List Event) → Stands p es → (b.number ≡ 0 → (settings_of a).p ≡ p) → Stands p (es ++ (record { act = a; answer = b } ∷ []))
          both [] u v = (v, tt)
          both (d ∷ es) u v = (u.0, both es u.1 v)
