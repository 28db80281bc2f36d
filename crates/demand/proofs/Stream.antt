-- The packets of every run from the fresh state in which p stands are a stream as 01 sets out. Assumes nothing.
use Prim.Native.Nat.{ℕ, ◌<◌, ◌≤◌}
use mathlib.Core.Path.{◌≡◌, refl, sym, ap, ap₂, ◌∙◌, subst}
use mathlib.Core.List.{List, [], ◌∷◌, ◌++◌}
use mathlib.Core.Bool.{Bool, true, false, ◌&&◌}
use native.Mathlib.Omega.{arith}
use borrow.Author.Tests.{eqb-true}
use lib.Dec.{eqb}
use lib.ListN.{length, replicate}
use Rattle.laws.specs.Pick.{pick}
use Rattle.laws.specs.Refuse.{refused_with}
use Rattle.hand.proofs.Allowed.{allowed}
use Rattle.packet.specs.Packet.{nothing}
use Rattle.queue.specs.Send.{got}
use Rattle.row.specs.Content.{chunks}
use Rattle.sender.specs.State.{fresh, index_of}
use Rattle.sender.specs.Load.{load_tests, load_number}
use Rattle.sender.proofs.Loading.{passed}
use Rattle.demand.specs.Bytes.{of_id, numbered}
use Rattle.demand.specs.Run.{Act, load, frame, Desk, fresh_desk, settings_of, after, Steady}
use Rattle.demand.specs.Log.{log, Stands, packets_of, unit_for, accepted_of, sent_of}
use Rattle.demand.specs.Within.{history, accepted_by, accepted_in, sent_in}
use Rattle.demand.specs.Stream.{Fair, Stream}
use Rattle.demand.proofs.Good.{fresh_good}
use Rattle.demand.proofs.Demand.{pieces}
use Rattle.demand.proofs.Filler.{filler_null}
use Rattle.demand.proofs.Seen.{accepted_seen, sent_seen, taken, taken_gather, taken_steady}
use Rattle.demand.proofs.Mirror.{fresh_is, sent_count}

-- ---- what is accepted has 1 to 4,096 bytes
fair_append : (us vs : List (List ℕ)) → Fair us → Fair vs → Fair (us ++ vs)
fair_append [] vs a b = b
fair_append (u ∷ us) vs a b =
    let r = fair_append us vs (record { some = a.some.1; fit = a.fit.1 }) b in record { some = (a.some.0, r.some); fit = (a.fit.0, r.fit) }

fair_by : (id : ℕ) (a : Act) (x : Desk) → Fair (accepted_by id a x)
unfolding accepted_by load_number
fair_by id (frame g out) x = record { some = tt; fit = tt }
fair_by id (load g j unit) x = go (eqb (refused_with (load_tests g x.state j (length unit) (length x.store))) 0) refl (eqb id j)
  where
    go : (b : Bool) → eqb (refused_with (load_tests g x.state j (length unit) (length x.store))) 0 ≡ b → (d : Bool) → Fair (pick (b && d) (unit ∷ []) [])
    go true e true =
        let a = (passed g x.state j (length unit) (length x.store) (eqb-true _ _ e)).unit in record { some = (a.one, tt); fit = (a.most, tt) }
    go true e false = record { some = tt; fit = tt }
    go false e d = record { some = tt; fit = tt }

fair_run : (id : ℕ) (acts : List Act) (x : Desk) → Fair (accepted_in id acts x)
unfolding accepted_in
fair_run id [] x = record { some = tt; fit = tt }
fair_run id (a ∷ acts) x = fair_append (accepted_by id a x) (accepted_in id acts (after a x)) (fair_by id a x) (fair_run id acts (after a x))

-- and p is then in its limits
low_by : (p id : ℕ) (a : Act) (x : Desk) → (settings_of a).p ≡ p → 1 ≤ length (accepted_by id a x) → 1 ≤ p
unfolding accepted_by load_number
low_by p id (frame g out) x s h = absurd (omega arith)
low_by p id (load g j unit) x s h = go (eqb (refused_with (load_tests g x.state j (length unit) (length x.store))) 0) refl (eqb id j) h
  where
    go : (b : Bool) → eqb (refused_with (load_tests g x.state j (length unit) (length x.store))) 0 ≡ b → (d : Bool) → 1 ≤ length (pick (b && d) (unit ∷ []) []) → 1 ≤ p
    go true e d h = let l = (allowed g (passed g x.state j (length unit) (length x.store) (eqb-true _ _ e)).allowed_in).low in omega arith
    go false e d h = absurd (omega arith)

low_run : (p id : ℕ) (acts : List Act) (x : Desk) → Steady p acts → 1 ≤ length (accepted_in id acts x) → 1 ≤ p
unfolding accepted_in
low_run p id [] x st h = absurd (omega arith)
low_run p id (a ∷ acts) x st h = go (accepted_by id a x) refl (low_run p id acts (after a x) st.1)
  where
    go : (us : List (List ℕ)) → accepted_by id a x ≡ us → (1 ≤ length (accepted_in id acts (after a x)) → 1 ≤ p) → 1 ≤ p
    go [] e ih = ih (subst (λ (us : List (List ℕ)). 1 ≤ length (us ++ accepted_in id acts (after a x))) e h)
    go (u ∷ us) e ih = low_by p id a x st.0 (omega (arith, ap length e))

-- ---- the stream
module _ (p : ℕ) (acts : List Act) (store : List ℕ) (hs : length store ≡ 12288) (st : Stands p (log acts (fresh_desk store))) where
  abbrev X : Desk
  X = fresh_desk store

  abbrev b : List Act
  b = taken acts X

  steady : Steady p b
  steady = taken_steady p acts X st

  sent_is : sent_in b X ≡ sent_of (log acts X)
  sent_is = sym (sent_seen b X) ∙ taken_gather packets_of acts X

  accepted_is : (id : ℕ) → accepted_in id b X ≡ accepted_of id (log acts X)
  accepted_is id = sym (accepted_seen id b X) ∙ taken_gather (unit_for id) acts X

  units_are : (id : ℕ) → id < 3 → of_id p id (sent_in b X) ≡ numbered id 0 (chunks p (length (of_id p id (sent_in b X))) false (accepted_in id b X))
  units_are id h =
      let f = fresh_is id store h in
      let k = fresh_good p store hs in
      let A = accepted_in id b X in
      pieces p id b X h steady k
      ∙ ap₂ (numbered id) f.index
      (ap₂ (λ (c : Bool) (us : List (List ℕ)). chunks p (got (history id b X)) c (us ++ A)) f.begun f.content ∙ ap (λ (n : ℕ). chunks p n false A) (sym (sent_count p id b X h steady k)))

  fresh_three : index_of fresh 3 ≡ 0
  unfolding fresh
  fresh_three = refl

  filler_are : of_id p 3 (sent_in b X) ≡ numbered 3 0 (replicate (length (of_id p 3 (sent_in b X))) nothing)
  filler_are =
      filler_null p b X steady (fresh_good p store hs) ∙ ap (λ (i : ℕ). numbered 3 i (replicate (length (of_id p 3 (sent_in b X))) nothing)) fresh_three

  pub stream : Stream p (log acts X)
  stream =
      record {
        units = λ id h.
            subst (λ (ss : List (List ℕ)). of_id p id ss ≡ numbered id 0 (chunks p (length (of_id p id ss)) false (accepted_of id (log acts X)))) sent_is
            (units_are id h ∙ ap (λ (us : List (List ℕ)). numbered id 0 (chunks p (length (of_id p id (sent_in b X))) false us)) (accepted_is id));
        filler = subst (λ (ss : List (List ℕ)). of_id p 3 ss ≡ numbered 3 0 (replicate (length (of_id p 3 ss)) nothing)) sent_is filler_are;
        fair = λ id. subst Fair (accepted_is id) (fair_run id b X);
        low = λ id h. low_run p id b X steady (subst (λ (us : List (List ℕ)). 1 ≤ length us) (sym (accepted_is id)) h);
      }
