-- C6 with C3: when a unit has come. Assumes nothing.
use Prim.Native.Nat.{ℕ, suc, ◌+◌, ◌-◌, ◌<◌, ◌≤◌}
use mathlib.Core.Path.{◌≡◌, refl, sym, ap, ap₂, ◌∙◌, subst}
use mathlib.Core.List.{List, [], ◌∷◌, ◌++◌, append_assoc, append-nil, map}
use mathlib.Core.Bool.{Bool}
use native.Mathlib.Omega.{arith}
use borrow.Author.Tests.{eq-eqb}
use lib.ListN.{length, take, length-append}
use lib.Seq.{take_at, take-take}
use Rattle.laws.specs.Pick.{pick}
use Rattle.hand.specs.declared.Settings.{Settings}
use Rattle.packet.specs.Packet.{Packet}
use Rattle.queue.specs.Queue.{waits}
use Rattle.queue.specs.Send.{AllPos}
use Rattle.row.specs.Content.{rests}
use Rattle.demand.specs.Bytes.{of_id, saying}
use Rattle.demand.specs.Run.{load, Answer}
use Rattle.demand.specs.Log.{Event, gather, unit_for, accepted_of, packets_of, sent_of, left_of, waiting_at}
use Rattle.demand.specs.Condition.{pieces_of, Ends}
use Rattle.demand.specs.Stream.{AllSome, count_of, Stream}
use Rattle.demand.proofs.Packets.{of_append}
use Rattle.demand.proofs.Seen.{gather_append}
use Rattle.demand.proofs.Drained.{left_waits, drained_past}
use Rattle.delivery.specs.Whole.{wholly_sent, delivered_in}
use Rattle.delivery.proofs.Come.{wholly_sent_come}

some_front : (us vs : List (List ℕ)) → AllSome (us ++ vs) → AllPos (map length us)
some_front [] vs a = tt
some_front (u ∷ us) vs a = (a.0, some_front us vs a.1)

saying_length : (ks : List Packet) → length (saying ks) ≡ length ks
unfolding saying
saying_length [] = refl
saying_length (k ∷ ks) = ap suc (saying_length ks)

front_of : (a b : List (List ℕ)) (n : ℕ) → n ≤ length b → take (length a) (take (length (a ++ b) - n) (a ++ b)) ≡ a
front_of a b n l = take-take (length a) (length (a ++ b) - n) (a ++ b) (omega (arith, length-append a b)) ∙ take_at a b (length a) refl

-- a unit that was accepted, and the calls next after it
module _ (p : ℕ) (before : List Event) (g : Settings) (id : ℕ) (unit : List ℕ) (b : Answer) (next : List Event) (z : b.number ≡ 0) where
  abbrev here : Event
  here = record { act = load g id unit; answer = b }

  abbrev all : List Event
  all = before ++ (here ∷ next)

  abbrev A : List (List ℕ)
  A = accepted_of id before ++ (unit ∷ [])

  -- the load brings its unit, and no packet
  brings : (es : List Event) → accepted_of id (here ∷ es) ≡ unit ∷ accepted_of id es
  unfolding gather unit_for
  brings es =
      ap₂ (λ (c d : Bool). pick c (pick d (unit ∷ []) []) [] ++ accepted_of id es) (eq-eqb b.number 0 z) (eq-eqb id id refl)

  sends_none : (es : List Event) → sent_of (here ∷ es) ≡ sent_of es
  unfolding gather packets_of
  sends_none es = ap (λ (c : Bool). pick c [] [] ++ sent_of es) (eq-eqb b.number 0 z)

  accepted_all : accepted_of id all ≡ A ++ accepted_of id next
  accepted_all =
      gather_append (unit_for id) before (here ∷ next)
      ∙ ap (λ (l : List (List ℕ)). accepted_of id before ++ l) (brings next)
      ∙ sym (append_assoc (accepted_of id before) (unit ∷ []) (accepted_of id next))

  accepted_then : accepted_of id (before ++ (here ∷ [])) ≡ A
  unfolding gather
  accepted_then = gather_append (unit_for id) before (here ∷ []) ∙ ap (λ (l : List (List ℕ)). accepted_of id before ++ l) (brings [])

  count_all : count_of p id all ≡ count_of p id before + count_of p id next
  count_all =
      ap (λ (ss : List (List ℕ)). length (of_id p id ss)) (gather_append packets_of before (here ∷ next) ∙ ap (λ (l : List (List ℕ)). sent_of before ++ l) (sends_none next))
      ∙ ap length (of_append p id (sent_of before) (sent_of next))
      ∙ length-append (of_id p id (sent_of before)) (of_id p id (sent_of next))

  count_then : count_of p id (before ++ (here ∷ [])) ≡ count_of p id before
  unfolding gather
  count_then =
      ap (λ (ss : List (List ℕ)). length (of_id p id ss))
      (gather_append packets_of before (here ∷ []) ∙ ap (λ (l : List (List ℕ)). sent_of before ++ l) (sends_none []) ∙ append-nil (sent_of before))

  -- once as many packets of its queue are written as waited, it has come
  pub has_come : Stream p all → id < 3 → (buffer : List ℕ) → length buffer ≡ 16384
      → Ends p unit (waiting_at p id (before ++ (here ∷ []))) (saying (of_id p id (sent_of next)))
      → take (length (accepted_of id before) + 1) (delivered_in p id all buffer) ≡ accepted_of id before ++ (unit ∷ [])
  unfolding wholly_sent left_of waiting_at
  has_come s h buffer hb e =
      let B = accepted_of id next in
      let n0 = count_of p id before in
      let n1 = count_of p id next in
      let n = count_of p id all in
      let lp : 1 ≤ p = s.low id (omega (arith, ap length accepted_all, length-append A B, length-append (accepted_of id before) (unit ∷ []))) in
      let pos : AllPos (map length A) = some_front A B (subst AllSome accepted_all (s.fair id).some) in
      let W = waits p (map length A) in
      let k : waits p (map length (rests p (count_of p id (before ++ (here ∷ []))) (accepted_of id (before ++ (here ∷ []))))) ≡ W - n0 =
      ap₂ (λ (i : ℕ) (us : List (List ℕ)). waits p (map length (rests p i us))) count_then accepted_then ∙ left_waits p lp A pos n0 in
      let f = e.front in
      let t = pieces_of p unit in
      let r = e.behind in
      let l : n1 ≡ length f + (length t + length r) =
      sym (saying_length (of_id p id (sent_of next))) ∙ ap length e.there ∙ length-append f (t ++ r) ∙ ap (λ (i : ℕ). length f + i) (length-append t r) in
      let past : length (rests p n (A ++ B)) ≤ length B = drained_past p lp A B n pos (omega (arith, count_all, e.place)) in
      let la : length (accepted_of id before) + 1 ≡ length A = sym (length-append (accepted_of id before) (unit ∷ [])) in
      ap₂ (λ (i : ℕ) (us : List (List ℕ)). take i us) la (wholly_sent_come p all buffer s hb id h)
      ∙ ap (λ (us : List (List ℕ)). take (length A) (take (length us - length (rests p n us)) us)) accepted_all
      ∙ front_of A B (length (rests p n (A ++ B))) past
