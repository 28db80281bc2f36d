-- The packets of id 3 in the frames of a run are null packets, and their indexes follow one another. Assumes nothing.
use Prim.Native.Nat.{ℕ, zero, suc, ◌+◌, ◌%◌, ◌<◌}
use mathlib.Core.Path.{◌≡◌, refl, sym, ap, ap₂, ◌∙◌, subst}
use mathlib.Core.List.{List, [], ◌∷◌, ◌++◌}
use mathlib.Core.Bool.{Bool, true, false}
use native.Mathlib.Omega.{arith}
use borrow.Author.Tests.{le-leb, eqb-true}
use lib.Dec.{eqb, leb, lit<}
use lib.ListN.{length, get_or, take, drop, replicate, length-replicate, replicate-append-replicate}
use lib.Seq.{drop-nil}
use Rattle.laws.specs.Pick.{pick}
use Rattle.laws.specs.Written.{written}
use Rattle.hand.specs.declared.Settings.{Settings}
use Rattle.hand.proofs.Allowed.{allowed}
use Rattle.packet.specs.Packet.{Chunk, Packet, nothing}
use Rattle.queue.specs.Queue.{units, no_units}
use Rattle.queue.specs.declared.Queue.{Queue}
use Rattle.row.specs.Row.{head_len, popped, stepped, steps, start_of}
use Rattle.sender.specs.State.{index_of, put_queue}
use Rattle.sender.specs.Load.{load_number, load_for}
use Rattle.sender.specs.Load as loads
use Rattle.sender.specs.Frame.{hand_of, ends_of, next_from, framed, frame_bytes, frame_number, frame_for, frame_out}
use Rattle.sender.proofs.Framing.{fit_of}
use Rattle.demand.specs.Bytes.{readable, own, of_id, index_after, numbered}
use Rattle.demand.specs.Run.{Act, load, frame, Desk, settings_of, after, Steady}
use Rattle.demand.specs.Within.{sent_by, sent_in}
use Rattle.demand.proofs.Good.{Good, after_good}
use Rattle.demand.proofs.Packets.{of_append, numbered_append, numbered_length}
use Rattle.demand.proofs.Rows.{chunk_at, row_chunks, frame_filler}

-- ---- lists of one thing
pub same_more : (n : ℕ) (c : Chunk) → replicate n c ++ (c ∷ []) ≡ replicate (suc n) c
same_more zero c = refl
same_more (suc n) c = ap (λ (l : List Chunk). c ∷ l) (same_more n c)

-- ---- a row of a queue that has no unit
module _ (p i : ℕ) where
  none_steps : (n : ℕ) → (steps p n (start_of no_units i)).q ≡ no_units
  unfolding steps stepped popped
  none_steps zero = refl
  none_steps (suc n) = ap (popped p) (none_steps n)

  null_chunk : (n : ℕ) → chunk_at p [] (steps p n (start_of no_units i)) ≡ nothing
  unfolding head_len
  null_chunk n =
      let o = steps p n (start_of no_units i) in
      let F : Queue → List ℕ → Chunk =
      λ (q : Queue) (d : List ℕ). record { first = eqb q.sent 0; last = leb (get_or (units q) 0 0) p; body = take (head_len p q) d } in
      let G : Bool → Chunk = λ (b : Bool). record { first = true; last = b; body = [] } in
      ap₂ F (none_steps n) (drop-nil {A = ℕ} o.at) ∙ ap G (le-leb 0 p (omega arith))

  null_row : (n : ℕ) → row_chunks p [] n (start_of no_units i) ≡ replicate n nothing
  unfolding row_chunks
  null_row zero = refl
  null_row (suc n) = ap₂ (λ (l : List Chunk) (c : Chunk). l ++ (c ∷ [])) (null_row n) (null_chunk n) ∙ same_more n nothing

index_sum : (n i : ℕ) → i < 8 → (i + n) % 8 ≡ index_after n i
unfolding index_after
index_sum zero i h = omega arith
index_sum (suc n) i h = omega (arith, index_sum n i h)

-- ---- one call
record Filled (p n : ℕ) (a : Act) (x : Desk) : Type 0 where
  sent : of_id p 3 (sent_by a x) ≡ numbered 3 (index_of x.state 3) (replicate n nothing)
  index : index_of (after a x).state 3 ≡ index_after n (index_of x.state 3)

-- how many
abbrev number : Act → Desk → ℕ
number (load g id unit) x = 0
number (frame g out) x = pick (eqb (frame_number g x.state x.store out) 0) (hand_of g x.state).filler 0

load_filled : (p : ℕ) (g : Settings) (j : ℕ) (unit : List ℕ) (x : Desk) → Filled p 0 (load g j unit) x
unfolding sent_by readable own numbered index_after after load_for loads.loaded put_queue
load_filled p g j unit x = record { sent = refl; index = go (eqb (load_number g x.state j unit x.store) 0) }
  where
    go : (b : Bool) → index_of (pick b (loads.loaded x.state j (length unit)) x.state) 3 ≡ index_of x.state 3
    go true = refl
    go false = refl

frame_filled : (g : Settings) (out : List ℕ) (x : Desk) → Good g.p x → Filled g.p (number (frame g out) x) (frame g out) x
unfolding sent_by frame_out written frame_number readable own numbered index_after after frame_for framed next_from ends_of
frame_filled g out x k = go (eqb (frame_number g x.state x.store out) 0) refl
  where
    go : (b : Bool) → eqb (frame_number g x.state x.store out) 0 ≡ b → Filled g.p (number (frame g out) x) (frame g out) x
    go false e = record { sent = simp e; index = simp e }
    go true e =
        let al = allowed g (fit_of g x.state (length x.store) (length out) (eqb-true _ _ e)).allowed_in in
        let bytes = frame_bytes g x.state x.store in
        let F = (hand_of g x.state).filler in
        let i = index_of x.state 3 in
        record {
          sent = rw e (frame_filler g x k al (drop (0 + length bytes) out) ∙ ap (numbered 3 i) (null_row g.p i F));
          index = rw e (index_sum F i (let l = k.indexes 3 (lit< tt) in omega arith));
        }

filled : (p : ℕ) (a : Act) (x : Desk) → (settings_of a).p ≡ p → Good p x → Filled p (number a x) a x
filled p (load g j unit) x e k = load_filled p g j unit x
filled p (frame g out) x e k =
    subst (λ (q : ℕ). Filled q (number (frame g out) x) (frame g out) x) e (frame_filled g out x (subst (λ (q : ℕ). Good q x) (sym e) k))

-- ---- a run
numbers : List Act → Desk → ℕ
numbers [] x = 0
numbers (a ∷ acts) x = number a x + numbers acts (after a x)

run_filled : (p : ℕ) (acts : List Act) (x : Desk) → Steady p acts → Good p x
    → of_id p 3 (sent_in acts x) ≡ numbered 3 (index_of x.state 3) (replicate (numbers acts x) nothing)
unfolding sent_in readable own numbers numbered
run_filled p [] x st k = refl
run_filled p (a ∷ acts) x st k =
    let y = after a x in
    let n = number a x in
    let m = numbers acts y in
    let i = index_of x.state 3 in
    let f = filled p a x st.0 k in
    of_append p 3 (sent_by a x) (sent_in acts y)
    ∙ ap₂ (λ (c d : List Packet). c ++ d) f.sent
    (run_filled p acts y st.1 (after_good p a x st.0 k)
    ∙ ap (λ (j : ℕ). numbered 3 j (replicate m nothing)) (f.index ∙ ap (λ (l : ℕ). index_after l i) (sym (length-replicate {A = Chunk} n nothing))))
    ∙ sym (numbered_append 3 i (replicate n nothing) (replicate m nothing))
    ∙ ap (numbered 3 i) (replicate-append-replicate {A = Chunk} n m nothing)

pub filler_null : (p : ℕ) (acts : List Act) (x : Desk) → Steady p acts → Good p x
    → of_id p 3 (sent_in acts x) ≡ numbered 3 (index_of x.state 3) (replicate (length (of_id p 3 (sent_in acts x))) nothing)
filler_null p acts x st k =
    let e = run_filled p acts x st k in
    let n : length (of_id p 3 (sent_in acts x)) ≡ numbers acts x = ap length e ∙ numbered_length 3 (index_of x.state 3) _ ∙ length-replicate {A = Chunk} (numbers acts x) nothing in
    e ∙ ap (λ (m : ℕ). numbered 3 (index_of x.state 3) (replicate m nothing)) (sym n)
