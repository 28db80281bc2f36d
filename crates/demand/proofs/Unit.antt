-- A unit that was accepted: the packets of its queue that are written next end with all of its own once the shares add up to what waited.
-- Assumes nothing.
use Prim.Native.Nat.{ℕ, ◌+◌, ◌-◌, ◌≤◌}
use mathlib.Core.Path.{◌≡◌, refl, sym, ap, ap₂, ◌∙◌, subst}
use mathlib.Core.List.{List, [], ◌∷◌, ◌++◌, append_assoc, map, map-append}
use mathlib.Core.Bool.{Bool, false, not, ◌&&◌}
use native.Mathlib.Omega.{arith}
use borrow.Author.Tests.{eq-eqb}
use lib.Dec.{eqb}
use lib.ListN.{length}
use lib.Seq.{length-take-le}
use Rattle.laws.specs.Pick.{pick}
use Rattle.hand.specs.declared.Settings.{Settings}
use Rattle.hand.proofs.Allowed.{allowed}
use Rattle.queue.specs.Queue.{add_up, packets, waits}
use Rattle.queue.proofs.Sums.{add_up_append}
use Rattle.queue.specs.Send.{AllPos, got, shares}
use Rattle.row.specs.Content.{begun_in, rests, begun_after, chunks}
use Rattle.sender.specs.State.{queue_of, index_of}
use Rattle.sender.specs.Load.{load_number}
use Rattle.sender.specs.Private.{Accepted}
use Rattle.sender.proofs.Loading.{passed}
use Rattle.demand.specs.Bytes.{of_id, saying}
use Rattle.demand.specs.Run.{Act, load, Desk, number_of, after, Steady}
use Rattle.demand.specs.Condition.{Ends}
use Rattle.demand.specs.Within.{history, accepted_by, accepted_in, sent_in, content_in, waiting_in}
use Rattle.demand.proofs.Good.{Good, after_good}
use Rattle.demand.proofs.Packets.{numbered_saying}
use Rattle.demand.proofs.Chunks.{chunks_length}
use Rattle.demand.proofs.Calls.{load_left}
use Rattle.demand.proofs.Demand.{pieces, sent_by_shares}
use Rattle.demand.proofs.Mirror.{content_lengths}
use Rattle.demand.proofs.Drained.{whole_behind}

module _ (p : ℕ) (y : Desk) (k : Good p y) (g : Settings) (id : ℕ) (unit : List ℕ) (e : g.p ≡ p) (z : number_of (load g id unit) y ≡ 0) where
  abbrev y' : Desk
  y' = after (load g id unit) y

  abbrev vs : List (List ℕ)
  vs = content_in id y

  accepted : Accepted y.state id (length unit) (length y.store)
  unfolding number_of load_number
  accepted = (passed g y.state id (length unit) (length y.store) z).unit

  low : 1 ≤ p
  unfolding number_of load_number
  low = let l = (allowed g (passed g y.state id (length unit) (length y.store) z).allowed_in).low in omega arith

  after_this : Good p y'
  after_this = after_good p (load g id unit) y e k

  -- what its queue holds then
  held : content_in id y' ≡ vs ++ (unit ∷ [])
  unfolding accepted_by number_of
  held =
      (load_left p g id id unit y k).0
      ∙ ap₂ (λ (b c : Bool). vs ++ pick (b && c) (unit ∷ []) []) (eq-eqb (load_number g y.state id unit y.store) 0 z) (eq-eqb id id refl)

  waits_then : waiting_in p id y' ≡ waits p (map length vs) + packets p (length unit)
  unfolding waiting_in waits add_up
  waits_then =
      ap (waits p) (sym (content_lengths p y' after_this id accepted.id_in) ∙ ap (map length) held ∙ map-append length vs (unit ∷ []))
      ∙ add_up_append (packets p) (map length vs) (length unit ∷ [])
      ∙ omega arith

  pos : AllPos (map length vs)
  pos = subst AllPos (sym (content_lengths p y k id accepted.id_in)) (k.queues id accepted.id_in).pos

  idle : vs ≡ [] → begun_in (queue_of y'.state id) ≡ false
  unfolding begun_in
  idle n =
      let q = queue_of y.state id in
      let s = k.queues id accepted.id_in in
      let c : q.count ≡ 0 =
      sym (length-take-le q.count q.left (omega (arith, s.count, s.eight))) ∙ ap length (sym (content_lengths p y k id accepted.id_in) ∙ ap (map length) n) in
      (load_left p g id id unit y k).1 ∙ ap (λ (n : ℕ). not (eqb n 0)) (s.empty c)

  pub unit_sent : (acts : List Act) → Steady p acts → waiting_in p id y' ≤ shares (history id acts y')
      → Ends p unit (waiting_in p id y') (saying (of_id p id (sent_in acts y')))
  unit_sent acts st h =
      let w = waits p (map length vs) in
      let m = packets p (length unit) in
      let n = got (history id acts y') in
      let b = begun_in (queue_of y'.state id) in
      let more = accepted_in id acts y' in
      let W = vs ++ (unit ∷ more) in
      let j = n - (w + m) in
      let f = sent_by_shares p id acts y' low accepted.id_in st after_this in
      let s : n ≡ w + m + j = omega (arith, waits_then) in
      let c : content_in id y' ++ more ≡ W = ap (λ (l : List (List ℕ)). l ++ more) held ∙ append_assoc vs (unit ∷ []) more in
      record {
        front = chunks p w b vs;
        behind = chunks p j (begun_after p (w + m) b W) (rests p (w + m) W);
        there =
            ap saying (pieces p id acts y' accepted.id_in st after_this)
            ∙ numbered_saying id (index_of y'.state id) _
            ∙ ap₂ (λ (i : ℕ) (us : List (List ℕ)). chunks p i b us) s c
            ∙ whole_behind p low vs unit more b j pos accepted.one idle;
        place = omega (arith, chunks_length p w b vs, chunks_length p m false (unit ∷ []), waits_then);
      }
