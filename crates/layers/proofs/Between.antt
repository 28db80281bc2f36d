-- What holds of a log without the calls that have another p holds of the whole log, where p stands. Assumes nothing.
use Prim.Native.Nat.{ℕ, ◌+◌}
use mathlib.Core.Path.{◌≡◌, sym, ap, ap₂, ◌∙◌, subst}
use mathlib.Core.List.{List, [], ◌∷◌, ◌++◌, map}
use mathlib.Core.Bool.{◌||◌}
use lib.Dec.{ltb, leb}
use lib.ListN.{length}
use Rattle.hand.specs.Hand.{spare_ids}
use Rattle.queue.specs.Queue.{add_up, same}
use Rattle.demand.specs.Run.{load, settings_of}
use Rattle.demand.specs.Log.{Event, Stands, unit_for, packets_of, share_for, accepted_of, sent_of, shares_of, left_of, waiting_at}
use Rattle.demand.specs.Condition.{Called, Written, Taken, waiting_with, SentWithin, full_at, Condition}
use Rattle.demand.specs.Reported.{steps_of, Reported}
use Rattle.demand.specs.Stream.{Stream}
use Rattle.demand.proofs.Parts.{stands_front, stands_back}
use Rattle.delivery.specs.Whole.{wholly_sent}
use Rattle.delivery.specs.Delivery.{HasCome, Delivery}
use Rattle.layers.specs.Holds.{Holds}
use Rattle.layers.proofs.Without.{events_with, with_append, with_here, stands_upto, gather_with, left_with, waiting_with_law, three_with, turn_with}
use Rattle.layers.proofs.BetweenFair.{fair_all}

-- ---- a call of the whole log
module _ (p : ℕ) (es : List Event) (st : Stands p es) where
  module _ (before : List Event) (e : Event) (behind : List Event) (there : es ≡ before ++ (e ∷ behind)) where
    parts : Stands p (before ++ (e ∷ behind))
    parts = subst (Stands p) there st

    stands_before : Stands p before
    stands_before = stands_front p before (e ∷ behind) parts

    has_p : e.answer.number ≡ 0 → (settings_of e.act).p ≡ p
    has_p = (stands_back p before (e ∷ behind) parts).0

    there_with : (settings_of e.act).p ≡ p → events_with p es ≡ events_with p before ++ (e ∷ events_with p behind)
    there_with h = ap (events_with p) there ∙ with_here p before e behind h

  -- ---- with this p, whatever it answered
  module _ (c : Called es) (h : (settings_of c.act).p ≡ p) where
    abbrev called : Called (events_with p es)
    called =
        record {
          before = events_with p c.before;
          act = c.act;
          answer = c.answer;
          behind = events_with p c.behind;
          there = there_with c.before _ c.behind c.there h;
        }

    left_called : (id : ℕ) → left_of p id (events_with p c.before) ≡ left_of p id c.before
    left_called = left_with p c.before (stands_before c.before _ c.behind c.there)

    full_called : (id n : ℕ) → full_at p id n (events_with p c.before) ≡ full_at p id n c.before
    unfolding full_at
    full_called id n = ap (λ (us : List (List ℕ)). leb 8 (length us) || ltb 4096 (n + add_up same (map length us))) (left_called id)

  -- ---- a frame that was written
  module _ (f : Written es) where
    abbrev written : Written (events_with p es)
    written =
        record {
          before = events_with p f.before;
          g = f.g;
          lent = f.lent;
          answer = f.answer;
          behind = events_with p f.behind;
          there = there_with f.before _ f.behind f.there (has_p f.before _ f.behind f.there f.done);
          done = f.done;
        }

    before_stands : Stands p f.before
    before_stands = stands_before f.before _ f.behind f.there

    waits_written : (id : ℕ) → waiting_at p id (events_with p f.before) ≡ waiting_at p id f.before
    waits_written = waiting_with_law p f.before before_stands

    steps_written : steps_of p written ≡ steps_of p f
    steps_written = ap₂ (spare_ids f.g) (three_with p f.before before_stands) (turn_with p f.before before_stands)

  -- ---- a unit that was accepted
  module _ (u : Taken es) where
    abbrev e : Event
    e = record { act = load u.g u.id u.unit; answer = u.answer }

    taken_p : u.g.p ≡ p
    taken_p = has_p u.before e (u.next ++ u.behind) u.there u.done

    abbrev taken : Taken (events_with p es)
    taken =
        record {
          before = events_with p u.before;
          g = u.g;
          id = u.id;
          unit = u.unit;
          answer = u.answer;
          next = events_with p u.next;
          behind = events_with p u.behind;
          there = there_with u.before e (u.next ++ u.behind) u.there taken_p
              ∙ ap (λ (l : List Event). events_with p u.before ++ (e ∷ l)) (with_append p u.next u.behind);
          done = u.done;
        }

    all_stands : Stands p (u.before ++ (e ∷ (u.next ++ u.behind)))
    all_stands = parts u.before e (u.next ++ u.behind) u.there

    next_stands : Stands p u.next
    next_stands = stands_front p u.next u.behind (stands_back p u.before (e ∷ (u.next ++ u.behind)) all_stands).1

    waits_taken : waiting_with p taken ≡ waiting_with p u
    unfolding events_with
    waits_taken =
        ap (waiting_at p u.id) (sym (with_here p u.before e [] taken_p))
        ∙ waiting_with_law p (u.before ++ (e ∷ [])) (stands_upto p u.before e [] (u.next ++ u.behind) all_stands) u.id

    shares_taken : shares_of u.id (events_with p u.next) ≡ shares_of u.id u.next
    shares_taken = gather_with p (share_for u.id) u.next next_stands

    sent_taken : SentWithin p taken → SentWithin p u
    sent_taken k = rw (sym waits_taken, sym (gather_with p packets_of u.next next_stands)) k

    come_taken : (buffer : List ℕ) → HasCome p taken buffer → HasCome p u buffer
    come_taken buffer k =
        let a = gather_with p (unit_for u.id) u.before (stands_front p u.before (e ∷ (u.next ++ u.behind)) all_stands) in
        let s = gather_with p packets_of (u.before ++ (e ∷ u.next)) (stands_upto p u.before e u.next u.behind all_stands) in
        rw (sym a, sym (ap sent_of (sym (with_here p u.before e u.next taken_p)) ∙ s)) k

  -- ---- the whole log
  condition_all : Condition p (events_with p es) → Condition p es
  condition_all k =
      record {
        share = λ f id h. rw (sym (waits_written f id)) (k.share (written f) id h);
        ceiling = λ f. k.ceiling (written f);
        filler = λ f l id h. rw (sym (waits_written f id)) (k.filler (written f) l id h);
        delay = λ u s n l q o. sent_taken u (k.delay (taken u) s n l (shares_taken u ∙ q) (rw (waits_taken u) o));
        by_shares = λ u l. sent_taken u (k.by_shares (taken u) (rw (waits_taken u, shares_taken u) l));
        never_17 = λ c h. k.never_17 (called c h) h;
        frames = λ c g out a h. k.frames (called c (rw a h)) g out a h;
        loads = λ c g id unit a h. rw (sym (full_called c (rw a h) id (length unit))) (k.loads (called c (rw a h)) g id unit a h);
        room = λ c g id unit a h. rw (sym (left_called c (rw a h) id)) (k.room (called c (rw a h)) g id unit a h);
      }

  reported_all : Reported p (events_with p es) → Reported p es
  reported_all k =
      record {
        served = λ f. rw (sym (three_with p f.before (before_stands f))) (k.served (written f));
        packets = λ f. k.packets (written f);
        filler = λ f. k.filler (written f);
        whole = λ f. k.whole (written f);
        spares = λ f. rw (sym (steps_written f)) (k.spares (written f));
        steps = λ f id h. rw (sym (steps_written f), sym (waits_written f id)) (k.steps (written f) id h);
      }

  sent_with : sent_of (events_with p es) ≡ sent_of es
  sent_with = gather_with p packets_of es st

  accepted_with : (id : ℕ) → accepted_of id (events_with p es) ≡ accepted_of id es
  accepted_with id = gather_with p (unit_for id) es st

  stream_all : Stream p (events_with p es) → Stream p es
  stream_all k =
      record {
        units = λ id h. rw (sym sent_with, sym (accepted_with id)) (k.units id h);
        filler = rw (sym sent_with) k.filler;
        fair = λ id. rw (sym (accepted_with id)) (k.fair id);
        low = λ id l. k.low id (rw (accepted_with id) l);
      }

  delivery_all : (buffer : List ℕ) → Delivery p (events_with p es) buffer → Delivery p es buffer
  unfolding wholly_sent
  delivery_all buffer k =
      record {
        come = λ id h. rw (sym sent_with, sym (accepted_with id), sym (left_with p es st id)) (k.come id h);
        all = λ id h. rw (sym sent_with, sym (accepted_with id), sym (left_with p es st id)) (k.all id h);
        filler = rw (sym sent_with) k.filler;
        soon = λ u s n l q o. come_taken u buffer (k.soon (taken u) s n l (shares_taken u ∙ q) (rw (waits_taken u) o));
        by_shares = λ u l. come_taken u buffer (k.by_shares (taken u) (rw (waits_taken u, shares_taken u) l));
        lost = λ id h start ts last q s. rw (sym (accepted_with id)) (k.lost id h start ts last (sent_with ∙ q) s);
        gap = λ id h before gone instead behind q lo hi none.
            rw (sym (accepted_with id)) (k.gap id h before gone instead behind (sent_with ∙ q) lo hi none);
      }

pub holds_all : (p : ℕ) (es : List Event) → Stands p es → Holds p (events_with p es) → Holds p es
holds_all p es st k =
    record {
      condition = condition_all p es st k.condition;
      reported = reported_all p es st k.reported;
      stream = stream_all p es st k.stream;
      delivery = λ buffer h. delivery_all p es st buffer (k.delivery buffer h);
      fair = fair_all p es st k.fair;
    }
