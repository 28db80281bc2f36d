-- The step: its refusals by the way taken, and what it answers. Assumes nothing.
use Prim.Native.Nat.{ℕ, ◌+◌, ◌-◌, ◌*◌, ◌≤◌, ◌<◌}
use mathlib.Core.Path.{◌≡◌, refl, sym, ap, ap₂, ◌∙◌}
use mathlib.Core.List.{List, []}
use mathlib.Core.Bool.{Bool, true, false, ◌&&◌, ◌||◌}
use native.Mathlib.Omega.{arith}
use borrow.Author.Tests.{eq-eqb, ne_eqb, lt-ltb, le-ltb, eqb-true, not-false}
use lib.Dec.{eqb, lit<}
use Rattle.std.specs.Prelude.{Result, Ok, Err, IfOk}
use Rattle.refusal.specs.declared.Refusal.{Refusal}
use Rattle.refusal.specs.Refusal.{number_in}
use lib.ListN.{length, get_or, set, take, drop}
use Rattle.std.specs.Bool.{then_some}
use Rattle.laws.specs.Pick.{pick}
use Rattle.laws.specs.Said.{Said}
use Rattle.laws.specs.Written.{written}
use Rattle.laws.proofs.Refuse.{free}
use Rattle.moves.specs.Moves.{placed}
use Rattle.moves.proofs.Turns.{placed_is}
use Rattle.packet.specs.Packet.{Packet, packet_of, padded, body_of, decode}
use Rattle.packet.specs.Calls.{tests_for, check_for, no_head, head_in, head_for, read_for}
use Rattle.packet.specs.Head.{Head}
use Rattle.packet.specs.declared.Head as said
use Rattle.packet.proofs.Reading.{passed, body_padded, body_full}
use Rattle.receiver.specs.declared.Link.{Link}
use Rattle.receiver.specs.declared.Receiver.{Receiver}
use Rattle.receiver.specs.declared.Told as given
use Rattle.receiver.specs.declared.Heard as given_in
use Rattle.receiver.specs.declared.Delivered as unit
use Rattle.receiver.specs.Answer.{Nothing, Delivered, Refused, Told, Heard, answer_of, told_of, heard_of}
use Rattle.receiver.specs.Link.{base_of, joins, adds, completes, Fate, delivered, added, dropped, skipped, fate_of, link_after, broken_link}
use Rattle.receiver.specs.Bytes.{dropped_bytes}
use Rattle.receiver.specs.Receiver.{link_of, broken, fate_in, base_in, answer_by, answer_in, taken_in, buffer_in, step_tests, step_number, step_for, buffer_for, told, values_by, said_for}
use Rattle.receiver.specs.Dropped.{dropped_in, dropped_for, told_in, told_for, heard_for, and_dropped, reported, report_for}
use Rattle.receiver.specs.Private.{says_with, Checked}
use Rattle.receiver.proofs.Links.{adds_fit}

-- ---- the number
pub four_are : (r : Receiver) (a b c d : Bool) → a ≡ broken_link (link_of r 0) → b ≡ broken_link (link_of r 1) → c ≡ broken_link (link_of r 2)
    → d ≡ broken_link (link_of r 3) → a || b || c || d ≡ broken r
unfolding broken
four_are r a b c d ea eb ec ed = rw (ea, eb, ec, ed)

-- the tests in the order of the call, by the way taken
module _ (p : ℕ) (r : Receiver) (s : List ℕ) (room : ℕ) where
  pub no_p : p ≡ 0 → 13 ≡ step_number p r s room
  unfolding step_number step_tests
  no_p h = simp (eq-eqb p 0 h)

  pub over_p : (p ≡ 0 → ⊥) → 255 < p → 13 ≡ step_number p r s room
  unfolding step_number step_tests
  over_p h l = simp (ne_eqb p 0 h, lt-ltb 255 p l)

  module _ (low : p ≡ 0 → ⊥) (high : p ≤ 255) (b : Bool) (eb : b ≡ broken r) where
    pub bad_record : b ≡ true → 17 ≡ step_number p r s room
    unfolding step_number step_tests
    bad_record h = simp (ne_eqb p 0 low, le-ltb 255 p high, ← eb, h)

    pub bad_buffer : b ≡ false → (room ≡ 16384 → ⊥) → 1 ≡ step_number p r s room
    unfolding step_number step_tests
    bad_buffer h k = simp (ne_eqb p 0 low, le-ltb 255 p high, ← eb, h, ne_eqb room 16384 k)

    pub as_checked : b ≡ false → room ≡ 16384 → check_for p s ≡ step_number p r s room
    unfolding step_number step_tests check_for tests_for
    as_checked h k = simp (ne_eqb p 0 low, le-ltb 255 p high, ← eb, h, eq-eqb room 16384 k)

  -- what acceptance says
  pub record Accepted : Type 0 where
    pub fine : broken r ≡ false
    pub whole : room ≡ 16384
    pub checked : check_for p s ≡ 0

  pub accepted_of_law : step_number p r s room ≡ 0 → Accepted
  unfolding step_number step_tests check_for tests_for
  accepted_of_law e =
      let t = free (step_tests p r s room) (lit< tt, (lit< tt, (lit< tt, (lit< tt, (lit< tt, (lit< tt, (lit< tt, tt))))))) e in
      record {
        fine = t.1.1.0;
        whole = eqb-true room 16384 (not-false (eqb room 16384) t.1.1.1.0);
        checked = simp (t.0, t.1.0, t.1.1.1.1.0, t.1.1.1.1.1.0, t.1.1.1.1.1.1.0);
      }

-- ---- what the header says
head_picks : (n : ℕ) (h : Head) → h.number ≡ 0 → (pick (eqb n 0) h (no_head n)).number ≡ n
head_picks n h e = go (eqb n 0) refl
  where
    go : (b : Bool) → eqb n 0 ≡ b → (pick b h (no_head n)).number ≡ n
    go true f = e ∙ sym (eqb-true n 0 f)
    go false f = refl

pub head_number : (p : ℕ) (s : List ℕ) → (read_for p s).number ≡ check_for p s
unfolding read_for head_for
head_number p s = head_picks (check_for p s) (head_for p s) refl

pub head_is : (p : ℕ) (s : List ℕ) → check_for p s ≡ 0 → read_for p s ≡ head_for p s
unfolding read_for
head_is p s e = simp e

-- the same of the answer
pub read_number : (p : ℕ) (s : List ℕ) (x : Result said.Head Refusal) → head_in x ≡ read_for p s → number_in x ≡ check_for p s
read_number p s (Ok h) e = ap (λ (a : Head). a.number) e ∙ head_number p s
read_number p s (Err n) e = ap (λ (a : Head). a.number) e ∙ head_number p s

pub read_head : (p : ℕ) (s : List ℕ) (x : Result said.Head Refusal) → head_in x ≡ read_for p s → IfOk x (λ h. head_in (Ok h) ≡ read_for p s)
read_head p s (Ok h) e = e
read_head p s (Err n) e = tt

-- ---- where the useful bytes stand
pub record Part (p : ℕ) (s : List ℕ) (from : ℕ) : Type 0 where
  pub inside : from + length (body_of p s) ≤ length s
  pub most : length (body_of p s) ≤ 255
  pub body : take (length (body_of p s)) (drop from s) ≡ body_of p s

part_by : (p : ℕ) (s : List ℕ) → check_for p s ≡ 0 → (b : Bool) → b ≡ padded (get_or s 0 0) → Part p s (pick b 2 1)
part_by p s z true e =
    let k = passed p s z in
    let q = body_padded p s (check_for p s) refl z true e refl (get_or s 1 0) refl in
    let c = k.count (sym e) in
    let l = k.low in
    let h = k.high in
    let w = k.whole in
    record {
      inside = omega (arith, q.0);
      most = omega (arith, q.0);
      body = ap (λ (n : ℕ). take n (drop 2 s)) q.0 ∙ sym q.1;
    }
part_by p s z false e =
    let k = passed p s z in
    let q = body_full p s (check_for p s) refl z false e refl in
    let h = k.high in
    let w = k.whole in
    record {
      inside = omega (arith, q.0);
      most = omega (arith, q.0);
      body = ap (λ (n : ℕ). take n (drop 1 s)) q.0 ∙ sym q.1;
    }

pub most_of : (p : ℕ) (s : List ℕ) → check_for p s ≡ 0 → length (body_of p s) ≤ 255
most_of p s z = (part_by p s z (padded (get_or s 0 0)) refl).most

-- ---- an accepted packet
answer_by_law : (c a j : Bool) (id m : ℕ) → answer_by (pick c delivered (pick a added (pick j dropped skipped))) id m ≡ pick c (Delivered id m) Nothing
unfolding answer_by
answer_by_law true a j id m = refl
answer_by_law false true j id m = refl
answer_by_law false false true id m = refl
answer_by_law false false false id m = refl

-- a unit is delivered exactly if the packet completes one
pub answer_is : (l : Link) (i : ℕ) (f t : Bool) (n id m : ℕ) → answer_by (fate_of l i f t n) id m ≡ pick (adds l i f t n && t) (Delivered id m) Nothing
unfolding fate_of completes
answer_is l i f t n id m = answer_by_law (adds l i f t n && t) (adds l i f t n) (joins l i f t n) id m

put_by : (ad : Bool) (buffer body : List ℕ) (at : ℕ) → (ad ≡ true → at + length body ≤ length buffer)
    → pick ad (placed buffer at body) buffer ≡ pick ad (written buffer at body) buffer
put_by true buffer body at h = placed_is buffer at body (h refl)
put_by false buffer body at h = refl

-- a unit that is complete, as the code has it
pub unit_is : (c : Bool) (d : unit.Delivered) → answer_of (Ok (then_some c d)) ≡ pick c (Delivered d.id d.length) Nothing
unit_is true d = refl
unit_is false d = refl

module _ (r : Receiver) (h : said.Head) (body buffer : List ℕ) (base : ℕ) (ad : Bool) (ok : Checked h (length body) (length buffer)) (id : ℕ)
    (ei : id ≡ h.id) (eb : base ≡ base_of (link_of r id) h.first) (ea : ad ≡ adds (link_of r id) h.index h.first h.last h.length) where
  base_law : base ≡ base_of (link_of r h.id) h.first
  base_law = eb ∙ ap (λ (j : ℕ). base_of (link_of r j) h.first) ei

  adds_law : ad ≡ adds (link_of r h.id) h.index h.first h.last (length body)
  adds_law = ea ∙ ap₂ (λ (j n : ℕ). adds (link_of r j) h.index h.first h.last n) ei ok.size

  put_in : ad ≡ true → h.id * 4096 + base + length body ≤ length buffer
  put_in t =
      let f = adds_fit (link_of r h.id) h.index h.first h.last (length body) (sym adds_law ∙ t) in
      let i = ok.id_in in
      let w = ok.whole in
      omega (arith, base_law)

  pub taken_is : (k : Link) (c : Bool) (d : ℕ) → k ≡ link_after (link_of r id) h.index h.first h.last h.length → c ≡ ad && h.last
      → d ≡ dropped_bytes (link_of r id) h.index h.first h.last h.length
      → ◌≡◌ {A = Told}
      (record {
        answer = answer_of (Ok (then_some c (record { id = h.id; length = base + h.length })));
        dropped = d;
        next = record { link = set r.link id k };
      })
      (told_in r (says_with h body))
  unfolding told_in dropped_in taken_in answer_in
  taken_is k c d ek ec en =
      rw (
        answer_is (link_of r h.id) h.index h.first h.last (length body) h.id (base_of (link_of r h.id) h.first + length body),
        ← adds_law,
        ← base_law,
        unit_is c (record { id = h.id; length = base + h.length }),
        ec,
        ek,
        en,
        ei,
        ok.size,
      )

  pub buffer_is : (out : List ℕ) → out ≡ pick ad (placed buffer (id * 4096 + base) body) buffer → out ≡ buffer_in r (says_with h body) buffer
  unfolding buffer_in
  buffer_is out eo =
      eo
      ∙ ap (λ (j : ℕ). pick ad (placed buffer (j * 4096 + base) body) buffer) ei
      ∙ rw (← adds_law, ← base_law) (put_by ad buffer body (h.id * 4096 + base) put_in)

-- ---- the values
told_by : (f : Fate) (id m : ℕ) → told (answer_by f id m) ≡ record { number = 0; place = 0; values = values_by f id m }
unfolding told answer_by values_by
told_by delivered id m = refl
told_by added id m = refl
told_by dropped id m = refl
told_by skipped id m = refl

-- 01's number and values of the answer
pub said_is : (p : ℕ) (r : Receiver) (s : List ℕ) (room : ℕ) → told (step_for p r s room).answer ≡ said_for p r s room
unfolding step_for said_for taken_in answer_in told
said_is p r s room = go (step_number p r s room) (eqb (step_number p r s room) 0) refl
  where
    k : Packet
    k = decode p s

    go : (n : ℕ) (b : Bool) → eqb n 0 ≡ b
        → told (pick b (taken_in r k) (record { answer = Refused n; next = r })).answer
        ≡ record { number = n; place = 0; values = pick b (values_by (fate_in r k) k.id (base_in r k + length k.chunk.body)) [] }
    go n true e = rw (eqb-true n 0 e) (told_by (fate_in r k) k.id (base_in r k + length k.chunk.body))
    go n false e = refl

-- and with the bytes dropped
pub report_is : (p : ℕ) (r : Receiver) (s : List ℕ) (room : ℕ) → reported (told_for p r s room).answer (told_for p r s room).dropped ≡ report_for p r s room
unfolding told_for reported report_for
report_is p r s room = ap (λ (a : Said). and_dropped a (dropped_for p r s room)) (said_is p r s room)

-- what the outer call gives back of it
pub heard_is : (p : ℕ) (r : Receiver) (s : List ℕ) (room : ℕ) (t : given.Told) → told_of t ≡ told_for p r s room
    → heard_of (record { answer = t.answer; dropped = t.dropped }) ≡ heard_for p r s room
unfolding told_for heard_for
heard_is p r s room t e = ap (λ (x : Told). record { answer = x.answer; dropped = x.dropped }) e

-- and with the record behind the loan it is the step's answer again
pub told_is : (p : ℕ) (r : Receiver) (s : List ℕ) (room : ℕ) (a : given_in.Heard) (u : Receiver) → heard_of a ≡ heard_for p r s room
    → u ≡ (told_for p r s room).next → told_of (record { answer = a.answer; dropped = a.dropped; next = u }) ≡ told_for p r s room
unfolding told_for heard_for
told_is p r s room a u ea eu = ap₂ (λ (x : Heard) (y : Receiver). record { answer = x.answer; dropped = x.dropped; next = y }) ea eu

-- ---- the call
module _ (p : ℕ) (r : Receiver) (s buffer : List ℕ) where
  pub step_refused : (n : ℕ) → n ≡ step_number p r s (length buffer) → (n ≡ 0 → ⊥)
      → (◌≡◌ {A = Told} (record { answer = Refused n; dropped = 0; next = r }) (told_for p r s (length buffer)))
      × ((reported (Refused n) 0 ≡ report_for p r s (length buffer)) × (buffer ≡ buffer_for p r s buffer))
  unfolding told_for step_for dropped_for buffer_for
  step_refused n en z =
      let e : ◌≡◌ {A = Told} (record { answer = Refused n; dropped = 0; next = r }) (told_for p r s (length buffer)) = simp (← en, ne_eqb n 0 z) in
      (e, (ap (λ (x : Told). reported x.answer x.dropped) e ∙ report_is p r s (length buffer), simp (← en, ne_eqb n 0 z)))

  module _ (h : said.Head) (eh : head_in (Ok h) ≡ read_for p s) (z : 0 ≡ step_number p r s (length buffer)) where
    accepted : Accepted p r s (length buffer)
    accepted = accepted_of_law p r s (length buffer) (sym z)

    head_fine : head_in (Ok h) ≡ head_for p s
    head_fine = eh ∙ head_is p s accepted.checked

    length_is : h.length ≡ length (body_of p s)
    unfolding head_for decode
    length_is = ap (λ (x : Head). x.length) head_fine

    module _ (from : ℕ) (ef : from ≡ pick h.padded 2 1) where
      part : Part p s from
      unfolding head_for decode
      part = rw ef (part_by p s accepted.checked h.padded (ap (λ (x : Head). x.padded) head_fine))

      pub step_sum : from + h.length ≤ 257
      step_sum = let m = part.most in let k = low h.padded in omega (arith, ef, length_is)
        where
          low : (b : Bool) → pick b 2 1 ≤ 2
          low true = omega arith
          low false = omega arith

      pub step_inside : from + h.length ≤ length s
      step_inside = rw length_is part.inside

      body_is : take (from + h.length - from) (drop from s) ≡ body_of p s
      body_is = let q : from + h.length - from ≡ length (body_of p s) = omega (arith, length_is) in rw q part.body

      pub step_ready : Checked h (length (take (from + h.length - from) (drop from s))) (length buffer)
      unfolding head_for decode
      step_ready = rw body_is (record { id_in = id_low; index_in = index_low; most = part.most; size = length_is; whole = accepted.whole })
        where
          id_low : h.id < 4
          id_low = rw (ap (λ (x : Head). x.id) head_fine) (omega arith)

          index_low : h.index < 8
          index_low = rw (ap (λ (x : Head). x.index) head_fine) (omega arith)

      says : says_with h (take (from + h.length - from) (drop from s)) ≡ decode p s
      unfolding head_for decode
      says = rw body_is (ap (λ (x : Head). packet_of x.first x.last x.id x.index (body_of p s)) head_fine)

      pub step_done : (t : given.Told) (out : List ℕ) → told_of t ≡ told_in r (says_with h (take (from + h.length - from) (drop from s)))
          → out ≡ buffer_in r (says_with h (take (from + h.length - from) (drop from s))) buffer
          → (told_of t ≡ told_for p r s (length buffer))
          × ((reported (answer_of t.answer) t.dropped ≡ report_for p r s (length buffer)) × (out ≡ buffer_for p r s buffer))
      unfolding told_in told_for step_for dropped_for buffer_for
      step_done t out et eo =
          let e : told_of t ≡ told_for p r s (length buffer) = simp (← z) (et ∙ ap (told_in r) says) in (
            e,
            (
              ap (λ (x : Told). reported x.answer x.dropped) e ∙ report_is p r s (length buffer),
              simp (← z) (eo ∙ ap (λ (x : Packet). buffer_in r x buffer) says),
            ),
          )
