-- Delivery holds of every run from the fresh state in which p stands. Assumes nothing.
use Prim.Native.Nat.{ℕ}
use mathlib.Core.Path.{◌≡◌, sym, ◌∙◌, subst}
use mathlib.Core.List.{List, ◌∷◌, ◌++◌, append_assoc}
use lib.ListN.{length}
use Rattle.demand.specs.Run.{Act, load, fresh_desk}
use Rattle.demand.specs.Log.{Event, log, Stands}
use Rattle.demand.specs.Condition.{Taken, SentWithin}
use Rattle.demand.specs.Stream.{Stream}
use Rattle.demand.proofs.Parts.{parted, stands_front}
use Rattle.demand.proofs.Condition.{condition, taken_id}
use Rattle.demand.proofs.Stream.{stream}
use Rattle.delivery.specs.Delivery.{HasCome, Delivery}
use Rattle.delivery.proofs.Come.{all_come, wholly_sent_come}
use Rattle.delivery.proofs.Filler.{filler_brings_none}
use Rattle.delivery.proofs.Soon.{has_come}
use Rattle.delivery.proofs.Loss.{uncut_come}
use Rattle.delivery.proofs.Gap.{gap_come}

module _ (p : ℕ) (acts : List Act) (store : List ℕ) (hs : length store ≡ 12288) (st : Stands p (log acts (fresh_desk store))) where
  abbrev E : List Event
  E = log acts (fresh_desk store)

  -- a run's beginning is a run
  front_stream : (es fs : List Event) → E ≡ es ++ fs → Stream p es
  front_stream es fs q =
      let r = parted acts (fresh_desk store) es fs q in
      let t = stands_front p es fs (subst (Stands p) q st) in
      subst (Stream p) (sym r.front) (stream p r.first store hs (subst (Stands p) r.front t))

  come_in : (buffer : List ℕ) → length buffer ≡ 16384 → (u : Taken E) → SentWithin p u → HasCome p u buffer
  come_in buffer hb u e =
      let here : Event = record { act = load u.g u.id u.unit; answer = u.answer } in
      let s = front_stream (u.before ++ (here ∷ u.next)) u.behind (u.there ∙ sym (append_assoc u.before (here ∷ u.next) u.behind)) in
      has_come p u.before u.g u.id u.unit u.answer u.next u.done s (taken_id p acts store hs st u) buffer hb e

  pub delivery : (buffer : List ℕ) → length buffer ≡ 16384 → Delivery p E buffer
  delivery buffer hb =
      let c = condition p acts store hs st in
      let s = stream p acts store hs st in
      record {
        come = wholly_sent_come p E buffer s hb;
        all = all_come p E buffer s hb;
        filler = filler_brings_none p E buffer s hb;
        soon = λ u t n l e k. come_in buffer hb u (c.delay u t n l e k);
        by_shares = λ u l. come_in buffer hb u (c.by_shares u l);
        lost = uncut_come p E buffer s hb;
        gap = gap_come p E buffer s hb;
      }
