-- One packet at the receiver, seen from each id: its own line takes it, every other stays. Assumes nothing.
use Prim.Native.Nat.{ℕ, zero, suc, ◌+◌, ◌*◌, ◌<◌, ◌≤◌}
use mathlib.Core.Path.{◌≡◌, refl, sym, ap, ◌∙◌}
use mathlib.Core.List.{List, [], ◌∷◌, ◌++◌}
use mathlib.Core.Bool.{Bool, true, false, not, ◌&&◌, true≢false}
use native.Mathlib.Omega.{arith}
use borrow.Author.Tests.{eq-eqb, ne_eqb, le-ltb, leb-true, eqb-true, eqb-false}
use lib.Dec.{leb, ltb, eqb}
use lib.ListN.{length, take, drop, get_or, length-drop, length-set}
use lib.Seq.{get_or-set_same, get_or-set_other, length-take-le}
use Rattle.laws.specs.Part.{part_of}
use Rattle.laws.specs.Pick.{pick}
use Rattle.laws.specs.Written.{written}
use Rattle.laws.proofs.Written.{written_length, take_written}
use Rattle.packet.specs.Packet.{Packet, decode}
use Rattle.packet.specs.Calls.{tests_for, check_for}
use Rattle.receiver.specs.declared.Link.{Link}
use Rattle.receiver.specs.declared.Receiver.{Receiver}
use Rattle.receiver.specs.Link.{kept, null_of, base_of, joins, adds, completes, Fate, delivered, added, dropped, skipped, fate_of, link_with, link_after, broken_link, no_link}
use Rattle.receiver.specs.Receiver.{link_of, fresh, broken, base_in, adds_in, answer_by, answer_in, link_in, taken_in, buffer_in, step_tests, step_number, step_for, buffer_for}
use Rattle.receiver.specs.Line.{grown, line_after, units_by, line_of}
use Rattle.demand.proofs.Store.{written_own, written_other}
use Rattle.delivery.specs.Delivered.{Ear, fresh_ear, line_at, hear, unit_in, unit_by}

-- what a receiver's record and buffer are
pub record LinkOk (l : Link) : Type 0 where
  pub index : l.index ≤ 7
  pub fits : l.begun ≡ true → l.len ≤ 4096

pub record EarOk (e : Ear) : Type 0 where
  pub four : length e.receiver.link ≡ 4
  pub links : (j : ℕ) → LinkOk (link_of e.receiver j)
  pub size : length e.buffer ≡ 16384

pub fresh_ok : (buffer : List ℕ) → length buffer ≡ 16384 → EarOk (fresh_ear buffer)
unfolding fresh
fresh_ok buffer h = record { four = refl; links = none; size = h }
  where
    none : (j : ℕ) → LinkOk (get_or (no_link ∷ no_link ∷ no_link ∷ no_link ∷ []) j no_link)
    none zero = record { index = omega arith; fits = λ e. omega arith }
    none (suc zero) = record { index = omega arith; fits = λ e. omega arith }
    none (suc (suc zero)) = record { index = omega arith; fits = λ e. omega arith }
    none (suc (suc (suc zero))) = record { index = omega arith; fits = λ e. omega arith }
    none (suc (suc (suc (suc j)))) = record { index = omega arith; fits = λ e. omega arith }

-- ---- it is refused exactly if the packet is
link_fine : (l : Link) → LinkOk l → broken_link l ≡ false
unfolding broken_link
link_fine l k = rw (le-ltb 7 l.index k.index) (go l.begun refl)
  where
    go : (b : Bool) → l.begun ≡ b → b && ltb 4096 l.len ≡ false
    go true e = le-ltb 4096 l.len (k.fits e)
    go false e = refl

pub number_is : (p : ℕ) (e : Ear) (s : List ℕ) → EarOk e → step_number p e.receiver s (length e.buffer) ≡ check_for p s
unfolding step_number step_tests check_for tests_for broken
number_is p e s o =
    simp (
      link_fine (link_of e.receiver 0) (o.links 0),
      link_fine (link_of e.receiver 1) (o.links 1),
      link_fine (link_of e.receiver 2) (o.links 2),
      link_fine (link_of e.receiver 3) (o.links 3),
      eq-eqb (length e.buffer) 16384 o.size,
    )

-- ---- an accepted packet
and_l : (x y : Bool) → x && y ≡ true → x ≡ true
and_l true y e = refl
and_l false y e = e

and_r : (x y : Bool) → x && y ≡ true → y ≡ true
and_r true y e = e
and_r false y e = absurd (true≢false (sym e))

adds_fit : (l : Link) (i : ℕ) (f t : Bool) (n : ℕ) → adds l i f t n ≡ true → base_of l f + n ≤ 4096
unfolding adds
adds_fit l i f t n e = leb-true (base_of l f + n) 4096 (and_r (joins l i f t n) (leb (base_of l f + n) 4096) e)

null_adds : (l : Link) (i : ℕ) (f t : Bool) (n : ℕ) → null_of f t n ≡ true → adds l i f t n ≡ false
unfolding adds joins
null_adds l i f t n e = simp e

front_is : (l : Link) (f : Bool) (q : List ℕ) → take (base_of l f) q ≡ pick f [] (take l.len q)
unfolding base_of
front_is l true q = refl
front_is l false q = refl

module _ (r : Receiver) (buffer : List ℕ) (k : Packet) (four : length r.link ≡ 4) (hid : k.id < 4) (size : length buffer ≡ 16384) where
  own_link : link_of (taken_in r k).next k.id ≡ link_in r k
  unfolding taken_in
  own_link = get_or-set_same r.link k.id (link_in r k) no_link (omega arith)

  other_link : (j : ℕ) → (j ≡ k.id → ⊥) → link_of (taken_in r k).next j ≡ link_of r j
  unfolding taken_in
  other_link j e = get_or-set_other r.link k.id j (link_in r k) no_link e

  room : length (part_of buffer k.id) ≡ 4096
  room = length-take-le 4096 (drop (k.id * 4096) buffer) (omega (arith, length-drop (k.id * 4096) buffer))

  fit : adds_in r k ≡ true → base_in r k + length k.chunk.body ≤ 4096
  fit = adds_fit (link_of r k.id) k.index k.chunk.first k.chunk.last (length k.chunk.body)

  -- the bytes of the unit with those that are written
  grown_at : adds_in r k ≡ true
      → take (base_in r k + length k.chunk.body) (part_of (written buffer (k.id * 4096 + base_in r k) k.chunk.body) k.id) ≡ grown (line_of r buffer k.id) k.chunk
  unfolding grown line_of
  grown_at e =
      let h = fit e in
      let q = part_of buffer k.id in
      let b = k.chunk.body in
      ap (take (base_in r k + length b)) (written_own buffer k.id (base_in r k) b (omega arith) h)
      ∙ take_written q (base_in r k) b (omega (arith, room))
      ∙ ap (λ (x : List ℕ). x ++ b) (front_is (link_of r k.id) k.chunk.first q)

  other_part : (j : ℕ) → (j ≡ k.id → ⊥) → part_of (buffer_in r k buffer) j ≡ part_of buffer j
  unfolding buffer_in
  other_part j e = go (adds_in r k) refl
    where
      go : (a : Bool) → adds_in r k ≡ a → part_of (pick a (written buffer (k.id * 4096 + base_in r k) k.chunk.body) buffer) j ≡ part_of buffer j
      go true f = written_other buffer k.id (base_in r k) k.chunk.body (omega arith) (fit f) j e
      go false f = refl

  buffer_size : length (buffer_in r k buffer) ≡ 16384
  unfolding buffer_in
  buffer_size = go (adds_in r k) refl
    where
      go : (a : Bool) → adds_in r k ≡ a → length (pick a (written buffer (k.id * 4096 + base_in r k) k.chunk.body) buffer) ≡ 16384
      go true f = let h = fit f in written_length buffer (k.id * 4096 + base_in r k) k.chunk.body (omega arith) ∙ size
      go false f = size

-- ---- the open unit after it; z: null, a: bytes were added, t: the last flag, o: the open unit outlives the index; y: what is written
held_after : (z a t o : Bool) (i m c : ℕ) (q y : List ℕ) (g : List ℕ) → (z ≡ true → a ≡ false) → (a ≡ true → take c y ≡ g)
    → take (pick z (link_with i o m) (link_with i (a && not t) c)).len (pick a y q)
    ≡ pick (pick z (link_with i o m) (link_with i (a && not t) c)).begun (pick z (take m q) g) []
unfolding link_with
held_after true true t o i m c q y g e f = absurd (true≢false (e refl))
held_after true false t true i m c q y g e f = refl
held_after true false t false i m c q y g e f = refl
held_after false true true o i m c q y g e f = refl
held_after false true false o i m c q y g e f = f refl
held_after false false t o i m c q y g e f = refl

kept_begun : (l : Link) (i : ℕ) → kept l i ≡ true → l.begun ≡ true
unfolding kept
kept_begun l i e = and_l l.begun (pick l.heard (eqb i l.index) true) e

with_ok : (i : ℕ) (b : Bool) (n : ℕ) → (b ≡ true → n ≤ 4096) → LinkOk (link_with i b n)
unfolding link_with
with_ok i true n f = record { index = omega arith; fits = λ e. f refl }
with_ok i false n f = record { index = omega arith; fits = λ e. omega arith }

part_pick : (a : Bool) (x y : List ℕ) (j : ℕ) → part_of (pick a x y) j ≡ pick a (part_of x j) (part_of y j)
part_pick true x y j = refl
part_pick false x y j = refl

module _ (r : Receiver) (buffer : List ℕ) (k : Packet) (four : length r.link ≡ 4) (hid : k.id < 4) (size : length buffer ≡ 16384) where
  abbrev next_buffer : List ℕ
  next_buffer = written buffer (k.id * 4096 + base_in r k) k.chunk.body

  own_bytes : take (link_in r k).len (part_of (buffer_in r k buffer) k.id) ≡ (line_after (line_of r buffer k.id) k.index k.chunk).bytes
  unfolding line_after link_after buffer_in line_of
  own_bytes =
      rw (part_pick (adds_in r k) next_buffer buffer k.id)
      (held_after (null_of k.chunk.first k.chunk.last (length k.chunk.body)) (adds_in r k) k.chunk.last (kept (link_of r k.id) k.index) k.index
      (link_of r k.id).len (base_in r k + length k.chunk.body) (part_of buffer k.id) (part_of next_buffer k.id) (grown (line_of r buffer k.id) k.chunk)
      (null_adds (link_of r k.id) k.index k.chunk.first k.chunk.last (length k.chunk.body)) (grown_at r buffer k four hid size))

  own_line : line_of (taken_in r k).next (buffer_in r k buffer) k.id ≡ line_after (line_of r buffer k.id) k.index k.chunk
  unfolding line_of line_after
  own_line = rw (own_link r buffer k four hid size) (rw own_bytes)

  other_line : (j : ℕ) → (j ≡ k.id → ⊥) → line_of (taken_in r k).next (buffer_in r k buffer) j ≡ line_of r buffer j
  unfolding line_of
  other_line j e = rw (other_link r buffer k four hid size j e, other_part r buffer k four hid size j e)

  -- a link that is in order stays so
  link_after_law : LinkOk (link_of r k.id) → LinkOk (link_in r k)
  unfolding link_after
  link_after_law o =
      go (null_of k.chunk.first k.chunk.last (length k.chunk.body)) (kept (link_of r k.id) k.index) refl (adds_in r k) refl k.chunk.last
    where
      begun_in_law : kept (link_of r k.id) k.index ≡ true → (link_of r k.id).len ≤ 4096
      begun_in_law e = o.fits (kept_begun (link_of r k.id) k.index e)

      go : (z s : Bool) → kept (link_of r k.id) k.index ≡ s → (a : Bool) → adds_in r k ≡ a → (t : Bool)
          → LinkOk (pick z (link_with k.index s (link_of r k.id).len) (link_with k.index (a && not t) (base_in r k + length k.chunk.body)))
      go true s e a f t = with_ok k.index s (link_of r k.id).len (λ x. begun_in_law (e ∙ x))
      go false s e a f t = with_ok k.index (a && not t) (base_in r k + length k.chunk.body) (λ x. fit r buffer k four hid size (f ∙ and_l a (not t) x))

  links_after : ((j : ℕ) → LinkOk (link_of r j)) → (j : ℕ) → LinkOk (link_of (taken_in r k).next j)
  links_after o j = go (eqb j k.id) refl
    where
      go : (b : Bool) → eqb j k.id ≡ b → LinkOk (link_of (taken_in r k).next j)
      go true e = let z : j ≡ k.id = eqb-true _ _ e in rw (z, own_link r buffer k four hid size) (link_after_law (o k.id))
      go false e = rw (other_link r buffer k four hid size j (eqb-false _ _ e)) (o j)

-- the unit that the answer reports; a: bytes were added, t: the last flag, n: all bytes of the unit
unit_own : (a j t : Bool) (id n : ℕ) (x y g : List ℕ) → (a ≡ true → take n (part_of x id) ≡ g)
    → unit_in id (answer_by (pick (a && t) delivered (pick a added (pick j dropped skipped))) id n) (pick a x y)
    ≡ pick (a && t) (g ∷ []) []
unfolding unit_in answer_by
unit_own true j true id n x y g f = simp (eq-eqb id id refl, f refl)
unit_own true j false id n x y g f = refl
unit_own false true t id n x y g f = refl
unit_own false false t id n x y g f = refl

unit_other : (k : Fate) (j id n : ℕ) (x : List ℕ) → (j ≡ id → ⊥) → unit_in j (answer_by k id n) x ≡ []
unfolding unit_in answer_by
unit_other delivered j id n x f = simp (ne_eqb j id f)
unit_other added j id n x f = refl
unit_other dropped j id n x f = refl
unit_other skipped j id n x f = refl

pub id_in : (p : ℕ) (s : List ℕ) → (decode p s).id < 4
unfolding decode
id_in p s = omega arith

-- ---- what a packet does, for each id
pub record Came (p : ℕ) (e : Ear) (s : List ℕ) (k : Packet) : Type 0 where
  pub ok : EarOk (hear p e s)
  pub line : line_at (hear p e s) k.id ≡ line_after (line_at e k.id) k.index k.chunk
  pub units : unit_by p k.id e s ≡ units_by (line_at e k.id) k.index k.chunk
  pub other : (j : ℕ) → (j ≡ k.id → ⊥) → line_at (hear p e s) j ≡ line_at e j
  pub none : (j : ℕ) → (j ≡ k.id → ⊥) → unit_by p j e s ≡ []

module _ (p : ℕ) (e : Ear) (s : List ℕ) (o : EarOk e) where
  -- a refused one does nothing
  pub refused_same : eqb (check_for p s) 0 ≡ false → hear p e s ≡ e
  unfolding hear step_for buffer_for
  refused_same h = simp (number_is p e s o, h)

  pub refused_none : eqb (check_for p s) 0 ≡ false → (id : ℕ) → unit_by p id e s ≡ []
  unfolding unit_by step_for unit_in
  refused_none h id = simp (number_is p e s o, h)

  module _ (h : eqb (check_for p s) 0 ≡ true) where
    abbrev k : Packet
    k = decode p s

    hear_is : hear p e s ≡ record { receiver = (taken_in e.receiver k).next; buffer = buffer_in e.receiver k e.buffer }
    unfolding hear step_for buffer_for
    hear_is = simp (number_is p e s o, h)

    unit_is : (id : ℕ) → unit_by p id e s ≡ unit_in id (answer_in e.receiver k) (buffer_in e.receiver k e.buffer)
    unfolding unit_by step_for buffer_for taken_in
    unit_is id = simp (number_is p e s o, h)

    own_units : unit_by p k.id e s ≡ units_by (line_at e k.id) k.index k.chunk
    unfolding answer_in buffer_in fate_of units_by completes line_of
    own_units =
        unit_is k.id
        ∙ unit_own (adds_in e.receiver k) (joins (link_of e.receiver k.id) k.index k.chunk.first k.chunk.last (length k.chunk.body)) k.chunk.last k.id
        (base_in e.receiver k + length k.chunk.body) (written e.buffer (k.id * 4096 + base_in e.receiver k) k.chunk.body) e.buffer
        (grown (line_of e.receiver e.buffer k.id) k.chunk) (grown_at e.receiver e.buffer k o.four (id_in p s) o.size)

    next_four : length (taken_in e.receiver k).next.link ≡ 4
    unfolding taken_in
    next_four = length-set e.receiver.link k.id (link_in e.receiver k) ∙ o.four

    pub came : Came p e s k
    unfolding answer_in
    came =
        record {
          ok =
              rw hear_is
              (record {
                four = next_four;
                links = links_after e.receiver e.buffer k o.four (id_in p s) o.size o.links;
                size = buffer_size e.receiver e.buffer k o.four (id_in p s) o.size;
              });
          line = rw hear_is (own_line e.receiver e.buffer k o.four (id_in p s) o.size);
          units = own_units;
          other = λ j f. rw hear_is (other_line e.receiver e.buffer k o.four (id_in p s) o.size j f);
          none = λ j f. unit_is j ∙ unit_other _ j k.id _ _ f;
        }
