-- Runs of calls, seen from one queue: what its packets say, what is left in the store, and that a unit accepted with k packets of its queue
-- then waiting, its own included, is wholly sent once the shares of the frames since add up to k. Assumes nothing.
use Prim.Native.Nat.{ℕ, ◌+◌, ◌-◌, ◌<◌, ◌≤◌, min}
use mathlib.Core.Path.{◌≡◌, refl, sym, ap, ap₂, ◌∙◌, subst}
use mathlib.Core.List.{List, [], ◌∷◌, ◌++◌, append_assoc, append-nil}
use mathlib.Core.Bool.{Bool}
use native.Mathlib.Omega.{arith}
use Rattle.packet.specs.Packet.{Packet}
use Rattle.queue.specs.Queue.{units}
use Rattle.queue.specs.Send.{send, Change, enters, leaves, changed, Lawful, shares, got, later}
use Rattle.queue.proofs.Sending.{wholly_sent_law, bound}
use Rattle.row.specs.Content.{begun_in, rests, begun_after, chunks}
use Rattle.sender.specs.State.{queue_of, index_of}
use Rattle.demand.specs.Bytes.{readable, own, of_id, index_after, numbered}
use Rattle.demand.specs.Run.{Act, Desk, run, Steady}
use Rattle.demand.specs.Run as runs
use Rattle.demand.specs.Within.{change_of, history, accepted_by, accepted_in, sent_by, sent_in, content_in, waiting_in}
use Rattle.demand.proofs.Good.{Good, after_good}
use Rattle.demand.proofs.Packets.{of_append, numbered_append}
use Rattle.demand.proofs.Chunks.{chunks_length, rests_add, rests_front, chunks_then}
use Rattle.demand.proofs.Calls.{Did, went}

pub got_append : (h h' : List Change) → got (h ++ h') ≡ got h + got h'
unfolding got
got_append [] h' = omega arith
got_append (enters x ∷ h) h' = got_append h h'
got_append (leaves t n ∷ h) h' = omega (arith, got_append h h')

-- ---- the lengths of its units
did_then : (p : ℕ) (h h' : List Change) (xs ys zs : List ℕ) → Did p h xs ys → Did p h' ys zs → Did p (h ++ h') xs zs
unfolding changed Lawful
did_then p [] h' xs ys zs a b = record { left = b.left ∙ ap (changed p h') a.left; lawful = subst (Lawful p h') a.left b.lawful }
did_then p (enters x ∷ h) h' xs ys zs a b =
    let r = did_then p h h' (xs ++ (x ∷ [])) ys zs (record { left = a.left; lawful = a.lawful.1 }) b in
    record { left = r.left; lawful = (a.lawful.0, r.lawful) }
did_then p (leaves t k ∷ h) h' xs ys zs a b =
    let r = did_then p h h' (send p k xs) ys zs (record { left = a.left; lawful = a.lawful.2 }) b in
    record { left = r.left; lawful = (a.lawful.0, a.lawful.1, r.lawful) }

did_run : (p id : ℕ) (acts : List Act) (x : Desk) → id < 3 → Steady p acts → Good p x
    → Did p (history id acts x) (units (queue_of x.state id)) (units (queue_of (run acts x).state id))
unfolding history run changed Lawful
did_run p id [] x h st k = record { left = refl; lawful = tt }
did_run p id (a ∷ rest) x h st k =
    did_then p (change_of id a x) (history id rest (runs.after a x)) _ _ _ (went p id a x h st.0 k).did
    (did_run p id rest (runs.after a x) h st.1 (after_good p a x st.0 k))

-- C3, of the state. x is what a call of a run left, a load that was accepted for instance, and k packets of queue id wait. Whatever is called
-- then: once the shares of the frames add up to k, only units that were accepted later are in the queue
pub wholly_sent_by_shares : (p id : ℕ) (acts : List Act) (x : Desk) → 1 ≤ p → id < 3 → Steady p acts → Good p x
    → waiting_in p id x ≤ shares (history id acts x)
    → units (queue_of (run acts x).state id) ≡ send p (got (history id acts x) - waiting_in p id x) (later (history id acts x))
unfolding waiting_in
wholly_sent_by_shares p id acts x hp h st k e =
    let d = did_run p id acts x h st k in
    d.left ∙ wholly_sent_law p hp (history id acts x) (units (queue_of x.state id)) (k.queues id h).pos d.lawful e

-- of k packets that wait as many are sent as the shares add up to
pub sent_by_shares : (p id : ℕ) (acts : List Act) (x : Desk) → 1 ≤ p → id < 3 → Steady p acts → Good p x
    → min (waiting_in p id x) (shares (history id acts x)) ≤ got (history id acts x)
unfolding waiting_in
sent_by_shares p id acts x hp h st k =
    bound p hp (waiting_in p id x) (history id acts x) (units (queue_of x.state id)) (k.queues id h).pos (did_run p id acts x h st k).lawful (omega arith)

-- ---- the bytes
-- the packets of id in the frames of a run, read from the outputs, say the pieces of the units that were there and of those accepted since, in
-- order, one wholly before the next, as many as were handed out; their indexes follow one another
pub pieces : (p id : ℕ) (acts : List Act) (x : Desk) → id < 3 → Steady p acts → Good p x
    → of_id p id (sent_in acts x)
    ≡ numbered id (index_of x.state id) (chunks p (got (history id acts x)) (begun_in (queue_of x.state id)) (content_in id x ++ accepted_in id acts x))
unfolding sent_in history accepted_in got chunks readable own numbered
pieces p id [] x h st k = refl
pieces p id (a ∷ rest) x h st k =
    let z = runs.after a x in
    let w = went p id a x h st.0 k in
    let us = content_in id x in
    let b = begun_in (queue_of x.state id) in
    let i = index_of x.state id in
    let n = got (change_of id a x) in
    let m = got (history id rest z) in
    let acc = accepted_by id a x in
    let more = accepted_in id rest z in
    let tail = chunks p m (begun_after p n b us) (rests p n us ++ (acc ++ more)) in
    of_append p id (sent_by a x) (sent_in rest z)
    ∙ ap₂ (λ (c d : List Packet). c ++ d) w.sent
    (pieces p id rest z h st.1 (after_good p a x st.0 k)
    ∙ ap₂ (numbered id) (w.index ∙ ap (λ (l : ℕ). index_after l i) (sym (chunks_length p n b us)))
    (ap₂ (λ (t : Bool) (l : List (List ℕ)). chunks p m t l) w.begun (ap (λ (l : List (List ℕ)). l ++ more) w.left ∙ append_assoc (rests p n us) acc more)))
    ∙ sym (numbered_append id i (chunks p n b us) tail)
    ∙ ap (numbered id i)
    (chunks_then p us (acc ++ more) n m b w.some ∙ ap (λ (j : ℕ). chunks p j b (us ++ (acc ++ more))) (sym (got_append (change_of id a x) (history id rest z))))

-- what the store has then is what was there and what was accepted, less what the packets have taken
pub run_content : (p id : ℕ) (acts : List Act) (x : Desk) → id < 3 → Steady p acts → Good p x
    → content_in id (run acts x) ≡ rests p (got (history id acts x)) (content_in id x ++ accepted_in id acts x)
unfolding run history accepted_in got rests
run_content p id [] x h st k = sym (append-nil (content_in id x))
run_content p id (a ∷ acts) x h st k =
    let y = runs.after a x in
    let w = went p id a x h st.0 k in
    let us = content_in id x in
    let n = got (change_of id a x) in
    let m = got (history id acts y) in
    let new = accepted_by id a x in
    let more = accepted_in id acts y in
    run_content p id acts y h st.1 (after_good p a x st.0 k)
    ∙ ap (rests p m) (ap (λ (l : List (List ℕ)). l ++ more) w.left ∙ append_assoc (rests p n us) new more ∙ sym (rests_front p us (new ++ more) n w.some))
    ∙ sym (rests_add p n m (us ++ (new ++ more)))
    ∙ ap (λ (i : ℕ). rests p i (us ++ (new ++ more))) (sym (got_append (change_of id a x) (history id acts y)))
