-- A frame: its rows one behind the other, and what the call answers. Assumes nothing.
use Prim.Native.Nat.{ℕ, zero, suc, ◌+◌, ◌-◌, ◌*◌, ◌%◌, ◌≤◌, ◌<◌}
use mathlib.Core.Path.{◌≡◌, refl, sym, ap, ◌∙◌, subst}
use mathlib.Core.List.{List, [], ◌++◌}
use mathlib.Core.Bool.{Bool, true, false}
use native.Mathlib.Nat.{mul-le-mul_right}
use native.Mathlib.Omega.{arith}
use borrow.Author.Tests.{le-leb, eqb-true, ltb-false, not-false}
use lib.Dec.{eqb, lit<}
use lib.ListN.{length, get_or, take, drop, length-drop, length-append}
use lib.Seq.{take_all}
use Rattle.laws.specs.Part.{part_of}
use Rattle.laws.specs.Pick.{pick}
use Rattle.laws.specs.Refuse.{refused_with}
use Rattle.laws.specs.Written.{written}
use Rattle.laws.proofs.Refuse.{free}
use Rattle.laws.proofs.Written.{write_next}
use Rattle.packet.specs.Packet.{packet_of, encode}
use Rattle.hand.specs.Settings.{total, settings_for, Allowed}
use Rattle.hand.specs.Hand.{hand_for, Handed}
use Rattle.hand.specs.declared.Three.{Three}
use Rattle.hand.specs.declared.Settings.{Settings}
use Rattle.hand.proofs.Allowed.{allowed}
use Rattle.hand.proofs.Answer.{hand_total}
use Rattle.moves.proofs.Parts.{tail_written}
use Rattle.queue.specs.Queue.{broken, no_units}
use Rattle.queue.specs.declared.Queue.{Queue}
use Rattle.queue.proofs.Faults.{sound_ok, fine_bytes}
use Rattle.queue.proofs.Keep.{none_sound}
use Rattle.ring.specs.Ring.{turned}
use Rattle.ring.proofs.Turned.{turned_length}
use Rattle.row.specs.Row.{head_len, popped, packet_at, stepped, steps, outs, start_of, fits, row_for, row_out}
use Rattle.row.specs.declared.Out.{Out}
use Rattle.queue.proofs.Taken.{head_len_p}
use Rattle.row.proofs.Steps.{Fit, fit_back, outs_length}
use Rattle.sender.specs.State.{queue_of, index_of, out_of, waiting_of}
use Rattle.sender.specs.Frame.{hand_of, row_at, nulls, frame_packets, end_of, ends_of, next_from, frame_tests, framed, frame_bytes}
use Rattle.sender.specs.Rings.{ring_of, unrolled}
use Rattle.sender.specs.Private.{Ready}
use Rattle.sender.specs.Private as private
use Rattle.sender.specs.declared.Front.{Front}
use Rattle.sender.specs.Answers.{Framed}
use Rattle.sender.specs.declared.Ends.{Ends}
use Rattle.sender.proofs.Faults.{Fine, fine_of}
use Rattle.sender.proofs.Unrolled.{part_length, ring_length, part_unrolled}

-- ---- a row into the frame from an offset on
row_into : (p id n : ℕ) (q : Queue) (index : ℕ) (region out : List ℕ) (at m : ℕ) → at ≤ length out → m ≡ length out - at
    → Fit p id n q index (length region) (length out - at) → (r : Out) (y : List ℕ)
    → r ≡ row_for p id n q index (length region) (length (take m (drop at out))) → y ≡ row_out p id n q index region (take m (drop at out))
    → (r ≡ steps p n (start_of q index)) × (take at out ++ (y ++ drop m (drop at out)) ≡ written out at (outs p id region n (start_of q index)))
unfolding row_for row_out
row_into p id n q index region out at m h em f r y er ey =
    let xs = outs p id region n (start_of q index) in
    let t : take m (drop at out) ≡ drop at out = take_all m (drop at out) (omega (arith, length-drop at out)) in
    let b : fits p id n q index (length region) (length out - at) ≡ true = fit_back p id n q index (length region) (length out - at) f in
    let c : fits p id n q index (length region) (length (take m (drop at out))) ≡ true =
    ap (λ (l : List ℕ). fits p id n q index (length region) (length l)) t ∙ ap (fits p id n q index (length region)) (length-drop at out) ∙ b in
    let z : y ≡ written (drop at out) 0 xs =
    ey ∙ ap (λ (x : Bool). pick x (written (take m (drop at out)) 0 xs) (take m (drop at out))) c ∙ ap (λ (l : List ℕ). written l 0 xs) t in
    (er ∙ ap (λ (x : Bool). pick x (steps p n (start_of q index)) (start_of q index)) c, tail_written out y xs at m (omega arith) z)

-- a queue, and its index
pub fine_queue : (p : ℕ) (s : Front) (id : ℕ) → id < 3 → Fine p s → (broken p (queue_of s id) ≡ false) × (index_of s id ≤ 7)
fine_queue p s zero h f = (f.q0, f.i0)
fine_queue p s (suc zero) h f = (f.q1, f.i1)
fine_queue p s (suc (suc zero)) h f = (f.q2, f.i2)
fine_queue p s (suc (suc (suc id))) h f = absurd (omega arith)

pub row_at_is : (p id n : ℕ) (s : Front) (starts store out : List ℕ) (at k m b : ℕ) → id < 3 → Ready p s (length store) → at + n * (p + 3) ≤ length out
    → k ≡ 4096 → m ≡ length out - at → b ≡ id * 4096 → (r : Out) (y : List ℕ)
    → r ≡ row_for p id n (queue_of s id) (index_of s id) (length (take k (drop b store))) (length (take m (drop at out)))
    → y ≡ row_out p id n (queue_of s id) (index_of s id) (turned (get_or starts id 0) (take k (drop b store))) (take m (drop at out))
    → (r ≡ end_of p s id n) × (take at out ++ (y ++ drop m (drop at out)) ≡ written out at (row_at p s (unrolled starts store) id n))
unfolding row_at
row_at_is p id n s starts store out at k m b hid k0 room ek em eb r y er ey =
    let v = get_or starts id 0 in
    let g : take k (drop b store) ≡ part_of store id = ap (λ (x : ℕ). take x (drop b store)) ek ∙ ap (λ (x : ℕ). take 4096 (drop x store)) eb in
    let l : length (ring_of starts store id) ≡ 4096 = ring_length starts store k0.whole id hid in
    let f = fine_queue p s id hid (fine_of p s k0.fine) in
    let i = f.1 in
    let u = fine_bytes p (queue_of s id) f.0 in
    let e =
    row_into p id n (queue_of s id) (index_of s id) (ring_of starts store id) out at m (omega arith) em
    (record { low = k0.low; id_in = omega arith; index_in = omega arith; fine = f.0; inside = omega arith; fits_in = omega arith }) r y
    (er ∙ ap (λ (x : ℕ). row_for p id n (queue_of s id) (index_of s id) x (length (take m (drop at out)))) (ap length g ∙ sym (turned_length v (part_of store id))))
    (ey ∙ ap (λ (x : List ℕ). row_out p id n (queue_of s id) (index_of s id) (turned v x) (take m (drop at out))) g) in
    (e.0, e.1 ∙ ap (λ (x : List ℕ). written out at (outs p id x n (out_of s id))) (sym (part_unrolled starts store k0.whole id hid)))

-- ---- filler
module _ (p i : ℕ) (region : List ℕ) (h : i < 8) where
  null_steps : (n : ℕ) → steps p n (start_of no_units i) ≡ start_of no_units ((i + n) % 8)
  unfolding steps stepped popped head_len
  null_steps zero = let z : i ≡ (i + 0) % 8 = omega arith in ap (start_of no_units) z
  null_steps (suc n) = let z : ((i + n) % 8 + 1) % 8 ≡ (i + suc n) % 8 = omega arith in ap (stepped p) (null_steps n) ∙ ap (start_of no_units) z

  null_packet : (j : ℕ) → packet_at p 3 region (start_of no_units j) ≡ encode p (packet_of true true 3 j [])
  unfolding packet_at head_len
  null_packet j = ap (λ (b : Bool). encode p (packet_of true b 3 j [])) (le-leb 0 p (omega arith))

  pub null_outs : (n : ℕ) → outs p 3 region n (start_of no_units i) ≡ nulls p i n
  unfolding outs nulls
  null_outs zero = refl
  null_outs (suc n) =
      ap (λ (l : List ℕ). l ++ packet_at p 3 region (steps p n (start_of no_units i))) (null_outs n)
      ∙ ap (λ (o : Out). nulls p i n ++ packet_at p 3 region o) (null_steps n)
      ∙ ap (λ (l : List ℕ). nulls p i n ++ l) (null_packet ((i + n) % 8))

pub filler_at_is : (p n : ℕ) (s : Front) (store out : List ℕ) (at m : ℕ) (q : Queue) → Ready p s (length store) → at + n * (p + 3) ≤ length out → m ≡ length out - at
    → q ≡ no_units → (r : Out) (y : List ℕ)
    → r ≡ row_for p 3 n q (index_of s 3) (length (take 4096 (drop 0 store))) (length (take m (drop at out)))
    → y ≡ row_out p 3 n q (index_of s 3) (turned 0 (take 4096 (drop 0 store))) (take m (drop at out))
    → (r.index ≡ (index_of s 3 + n) % 8) × (take at out ++ (y ++ drop m (drop at out)) ≡ written out at (nulls p (index_of s 3) n))
filler_at_is p n s store out at m q k0 room em eq r y er ey =
    let part = take 4096 (drop 0 store) in
    let region = turned 0 part in
    let l : length region ≡ 4096 = turned_length 0 part ∙ part_length store 0 (lit< tt) k0.whole in
    let i = (fine_of p s k0.fine).i3 in
    let h : index_of s 3 < 8 = omega arith in
    let k =
    row_into p 3 n no_units (index_of s 3) region out at m (omega arith) em
    (record { low = k0.low; id_in = lit< tt; index_in = h; fine = sound_ok p no_units (none_sound p); inside = let u = (none_sound p).bytes in omega arith; fits_in = omega arith }) r y
    (er
    ∙ ap (λ (x : Queue). row_for p 3 n x (index_of s 3) (length part) (length (take m (drop at out)))) eq
    ∙ ap (λ (x : ℕ). row_for p 3 n no_units (index_of s 3) x (length (take m (drop at out)))) (sym (turned_length 0 part)))
    (ey ∙ ap (λ (x : Queue). row_out p 3 n x (index_of s 3) region (take m (drop at out))) eq) in
    (ap (λ (o : Out). o.index) (k.0 ∙ null_steps p (index_of s 3) region h n), k.1 ∙ ap (written out at) (null_outs p (index_of s 3) region h n))

-- ---- the rows one behind the other
row_length : (p : ℕ) (s : Front) (store : List ℕ) (id n : ℕ) → 1 ≤ p → length (row_at p s store id n) ≡ n * (p + 3)
unfolding row_at
row_length p s store id n h = outs_length p id (part_of store id) n (out_of s id) h

pub rows_are : (p : ℕ) (s : Front) (store : List ℕ) (n : Three) (filler : ℕ) (d d₁ d₂ d₃ d₄ : List ℕ) (e₀ e₁ e₂ : ℕ) → 1 ≤ p
    → (total n + filler) * (p + 3) ≤ length d → e₀ ≡ n.a * (p + 3) → e₁ ≡ n.a * (p + 3) + n.b * (p + 3) → e₂ ≡ n.a * (p + 3) + n.b * (p + 3) + n.c * (p + 3)
    → d₁ ≡ written d 0 (row_at p s store 0 n.a) → d₂ ≡ written d₁ e₀ (row_at p s store 1 n.b) → d₃ ≡ written d₂ e₁ (row_at p s store 2 n.c)
    → d₄ ≡ written d₃ e₂ (nulls p (index_of s 3) filler) → d₄ ≡ written d 0 (frame_packets p s store n filler)
unfolding frame_packets
rows_are p s store n filler d d₁ d₂ d₃ d₄ e₀ e₁ e₂ hp room q₀ q₁ q₂ w₁ w₂ w₃ w₄ =
    let r₀ = row_at p s store 0 n.a in
    let r₁ = row_at p s store 1 n.b in
    let r₂ = row_at p s store 2 n.c in
    let r₃ = nulls p (index_of s 3) filler in
    let l₀ : length r₀ ≡ n.a * (p + 3) = row_length p s store 0 n.a hp in
    let l₁ : length r₁ ≡ n.b * (p + 3) = row_length p s store 1 n.b hp in
    let l₂ : length r₂ ≡ n.c * (p + 3) = row_length p s store 2 n.c hp in
    let a₁ : length (r₀ ++ r₁) ≡ length r₀ + length r₁ = length-append r₀ r₁ in
    let a₂ : length (r₀ ++ r₁ ++ r₂) ≡ length (r₀ ++ r₁) + length r₂ = length-append (r₀ ++ r₁) r₂ in
    let x₂ : d₂ ≡ written d 0 (r₀ ++ r₁) = w₂ ∙ write_next d d₁ 0 r₀ r₁ e₀ (omega arith) (omega arith) w₁ in
    let x₃ : d₃ ≡ written d 0 (r₀ ++ r₁ ++ r₂) = w₃ ∙ write_next d d₂ 0 (r₀ ++ r₁) r₂ e₁ (omega arith) (omega arith) x₂ in
    w₄ ∙ write_next d d₃ 0 (r₀ ++ r₁ ++ r₂) r₃ e₂ (omega arith) (omega arith) x₃

pub ends_are : (p : ℕ) (s : Front) (n : Three) (filler : ℕ) (a b c : Out) (i : ℕ) → a ≡ end_of p s 0 n.a → b ≡ end_of p s 1 n.b → c ≡ end_of p s 2 n.c
    → i ≡ (index_of s 3 + filler) % 8 → ◌≡◌ {A = Ends} (record { a = a; b = b; c = c; index = i }) (ends_of p s n filler)
unfolding ends_of
ends_are p s n filler a b c i ea eb ec ei = simp (ea, eb, ec, ei)

-- ---- how far the writing of a queue gets
steps_at : (p n : ℕ) (o : Out) → (steps p n o).at ≤ o.at + n * p
unfolding steps stepped
steps_at p zero o = omega arith
steps_at p (suc n) o = omega (arith, steps_at p n o, head_len_p p (steps p n o).q)

-- ---- the refusals
pub product_in : (g : Settings) → 0 ≡ settings_for g → g.n * (g.p + 3) ≤ 8190
product_in g e = (allowed g (sym e)).room

module _ (g : Settings) (s : Front) (room size : ℕ) where
  pub fit_of : refused_with (frame_tests g s room size) ≡ 0 → private.Fit g s room size
  unfolding frame_tests
  fit_of e =
      let t = free (frame_tests g s room size) (lit< tt, (lit< tt, (lit< tt, (lit< tt, tt)))) e in
      record {
        allowed_in = eqb-true (settings_for g) 0 (not-false (eqb (settings_for g) 0) t.0);
        fine = t.1.0;
        whole = eqb-true room 12288 (not-false (eqb room 12288) t.1.1.0);
        fits = ltb-false size (g.n * (g.p + 3)) t.1.1.1.0;
      }

-- ---- where the checks have passed
module _ (g : Settings) (s : Front) (room size : ℕ) (f : private.Fit g s room size) where
  settings : Allowed g
  settings = allowed g f.allowed_in

  pub p_in : g.p ≤ 255
  p_in = settings.high

  pub ready : (p : ℕ) → p ≡ g.p → Ready p s room
  ready p e = subst (λ (x : ℕ). Ready x s room) (sym e) (record { low = settings.low; fine = f.fine; whole = f.whole })

  module _ (p : ℕ) (ep : p ≡ g.p) (w : Three) (ew : w ≡ waiting_of p s) (h : Handed) (eh : h ≡ hand_for g w s.turn) where
    pub hand_here : h ≡ hand_of g s
    unfolding hand_of
    hand_here = eh ∙ ap (λ (x : Three). hand_for g x s.turn) (ew ∙ ap (λ (k : ℕ). waiting_of k s) ep)

    sum_here : total h.packets + h.filler ≡ g.n
    sum_here = ap (λ (x : Handed). total x.packets + x.filler) eh ∙ hand_total g w s.turn settings

    pub rows_in : (total h.packets + h.filler) * (p + 3) ≤ size
    rows_in = let k = f.fits in rw (ep, sum_here) k

    pub ends_in : (e : Ends) → e ≡ ends_of p s h.packets h.filler → (e.a.at ≤ 8190) × (e.b.at ≤ 8190) × (e.c.at ≤ 8190)
    unfolding ends_of
    ends_in e ee =
        let r = settings.room in
        let N = g.n in
        let a : h.packets.a ≤ N = let q = sum_here in omega arith in
        let b : h.packets.b ≤ N = let q = sum_here in omega arith in
        let c : h.packets.c ≤ N = let q = sum_here in omega arith in
        rw (ee, ep) (
          omega (arith, steps_at g.p h.packets.a (out_of s 0), mul-le-mul_right g.p a),
          omega (arith, steps_at g.p h.packets.b (out_of s 1), mul-le-mul_right g.p b),
          omega (arith, steps_at g.p h.packets.c (out_of s 2), mul-le-mul_right g.p c),
        )

    pub framed_is : (e : Ends) → e ≡ ends_of p s h.packets h.filler → (r : Front) → r ≡ next_from e h.turn
        → ◌≡◌ {A = Framed} (record { number = 0; next = r; packets = h.packets; spares = h.spares; filler = h.filler }) (framed g s)
    unfolding framed
    framed_is e ee r er =
        simp (er, ee, ep, ← hand_here)

    pub bytes_are : (store out d : List ℕ) → d ≡ written out 0 (frame_packets p s store h.packets h.filler) → d ≡ written out 0 (frame_bytes g s store)
    unfolding frame_bytes
    bytes_are store out d ed =
        ed
        ∙ ap (λ (k : ℕ). written out 0 (frame_packets k s store h.packets h.filler)) ep
        ∙ ap (λ (x : Handed). written out 0 (frame_packets g.p s store x.packets x.filler)) hand_here
