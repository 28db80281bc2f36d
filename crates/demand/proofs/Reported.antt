-- What every frame of a run from the fresh state reports, where p stands. Assumes nothing.
use Prim.Native.Nat.{ℕ, zero, suc, ◌+◌, ◌<◌, min}
use mathlib.Core.Path.{◌≡◌, refl, sym, ap, ap₂, ◌∙◌, subst}
use mathlib.Core.List.{List}
use native.Mathlib.Omega.{arith}
use lib.Dec.{lit<}
use lib.ListN.{length}
use Rattle.hand.specs.Settings.{at}
use Rattle.hand.specs.Hand.{count_of, spare_ids}
use Rattle.hand.specs.Served.{Served}
use Rattle.hand.specs.declared.Three.{Three}
use Rattle.sender.specs.State.{waiting_of}
use Rattle.sender.specs.Frame.{hand_of}
use Rattle.demand.specs.Bytes.{split, of_id}
use Rattle.demand.specs.Run.{Act, frame, Desk, fresh_desk, number_of, Answer, answer}
use Rattle.demand.specs.Log.{Event, log, Stands, waiting_at}
use Rattle.demand.specs.Condition.{Written, carries}
use Rattle.demand.specs.Reported.{waiting_three, holds, steps_of, Reported}
use Rattle.demand.proofs.Good.{Good}
use Rattle.demand.proofs.Served.{served_here}
use Rattle.demand.proofs.Counted.{frame_allowed, carried, carried_filler, frame_sum, reported, steps_reported, spares_reported}
use Rattle.demand.proofs.Turn.{three_is, waits_seen}
use Rattle.demand.proofs.Condition.{at_frame, zero_at}

three_at : (p : ℕ) (es : List Event) (id : ℕ) → id < 3 → at (waiting_three p es) id ≡ waiting_at p id es
three_at p es zero h = refl
three_at p es (suc zero) h = refl
three_at p es (suc (suc zero)) h = refl
three_at p es (suc (suc (suc id))) h = absurd (omega arith)

module _ (p : ℕ) (acts : List Act) (store : List ℕ) (hs : length store ≡ 12288) (st : Stands p (log acts (fresh_desk store))) where
  abbrev E : List Event
  E = log acts (fresh_desk store)

  module _ (f : Written E) where
    abbrev y : Desk
    y = (at_frame p acts store hs st f).desk

    same : f.g.p ≡ p
    same = (at_frame p acts store hs st f).same f.done

    good : Good f.g.p y
    good = subst (λ (q : ℕ). Good q y) (sym same) (at_frame p acts store hs st f).seen.good

    done : number_of (frame f.g f.lent) y ≡ 0
    done = zero_at p acts store hs st f

    is : f.answer ≡ answer (frame f.g f.lent) y
    is = (at_frame p acts store hs st f).answered

    counts : (id : ℕ) → id < 3 → carries f id ≡ at (hand_of f.g y.state).packets id
    counts id h = ap (λ (b : Answer). length (of_id f.g.p id (split (f.g.p + 3) f.g.n b.out))) is ∙ carried f.g f.lent y good done id h

    fills : carries f 3 ≡ (hand_of f.g y.state).filler
    fills = ap (λ (b : Answer). length (of_id f.g.p 3 (split (f.g.p + 3) f.g.n b.out))) is ∙ carried_filler f.g f.lent y good done

    waits : waiting_of f.g.p y.state ≡ waiting_three p f.before
    waits = ap (λ (q : ℕ). waiting_of q y.state) same ∙ waits_seen p f.before y (at_frame p acts store hs st f).seen

    steps_are : spare_ids f.g (waiting_of f.g.p y.state) y.state.turn ≡ steps_of p f
    steps_are = ap₂ (spare_ids f.g) waits (at_frame p acts store hs st f).turn

    served_told : Served f.g.n (waiting_three p f.before) f.g.share f.g.ceiling (holds f)
    served_told =
        let got = (hand_of f.g y.state).packets in
        let e : got ≡ holds f = three_is got _ _ _ (sym (counts 0 (lit< tt))) (sym (counts 1 (lit< tt))) (sym (counts 2 (lit< tt))) in
        subst (λ (w : Three). Served f.g.n w f.g.share f.g.ceiling (holds f)) waits
        (subst (Served f.g.n (waiting_of f.g.p y.state) f.g.share f.g.ceiling) e (served_here f.g y good (frame_allowed f.g f.lent y done)))

    packets_told : (id : ℕ) → id < 3 → at f.answer.packets id ≡ carries f id
    packets_told id h = ap (λ (b : Answer). at b.packets id) is ∙ ap (λ (t : Three). at t id) (reported f.g f.lent y done).0 ∙ sym (counts id h)

    filler_told : f.answer.filler ≡ carries f 3
    filler_told = ap (λ (b : Answer). b.filler) is ∙ (reported f.g f.lent y done).1 ∙ sym fills

    whole_told : carries f 0 + carries f 1 + carries f 2 + carries f 3 ≡ f.g.n
    whole_told = omega (arith, counts 0 (lit< tt), counts 1 (lit< tt), counts 2 (lit< tt), fills, frame_sum f.g f.lent y good done)

    spares_told : f.answer.spares ≡ length (steps_of p f)
    spares_told = ap (λ (b : Answer). b.spares) is ∙ spares_reported f.g f.lent y done ∙ ap length steps_are

    steps_told : (id : ℕ) → id < 3 → carries f id ≡ min (at f.g.share id) (waiting_at p id f.before) + count_of id (steps_of p f)
    steps_told id h =
        counts id h
        ∙ steps_reported f.g f.lent y done id h
        ∙ ap₂ (λ (w : ℕ) (ids : List ℕ). min (at f.g.share id) w + count_of id ids) (ap (λ (w : Three). at w id) waits ∙ three_at p f.before id h) steps_are

  pub reports : Reported p E
  reports =
      record {
        served = served_told;
        packets = packets_told;
        filler = filler_told;
        whole = whole_told;
        spares = spares_told;
        steps = steps_told;
      }
