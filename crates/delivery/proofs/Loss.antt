-- What survives lost packets: the units that no gap cuts come whole and in order, and nothing else does. Assumes nothing.
use Prim.Native.Nat.{ℕ, zero, suc, ◌+◌, ◌-◌, ◌%◌, ◌<◌, ◌≤◌}
use mathlib.Core.Path.{◌≡◌, refl, sym, ap, ap₂, ◌∙◌, subst}
use mathlib.Core.List.{List, [], ◌∷◌, ◌++◌, append_assoc, append-nil}
use mathlib.Core.Bool.{Bool, true, false, not, ◌&&◌}
use native.Mathlib.Omega.{arith}
use borrow.Author.Tests.{ne_eqb}
use lib.Dec.{leb}
use lib.ListN.{length, take, drop, length-append}
use lib.Seq.{take_at, drop_at, drop-drop}
use Rattle.laws.specs.Pick.{pick}
use Rattle.packet.specs.Packet.{Chunk, Packet}
use Rattle.row.specs.Content.{chunk_of, rest_of, begun_of, rests, begun_after, chunks}
use Rattle.receiver.specs.Link.{kept, null_of, adds, link_with, link_after}
use Rattle.receiver.specs.Line.{Line, idle, line_after, line_through, units_through}
use Rattle.receiver.proofs.Lines.{through_append, units_append}
use Rattle.demand.specs.Bytes.{readable, own, of_id, index_after, numbered}
use Rattle.demand.specs.Log.{Event, accepted_of, sent_of}
use Rattle.demand.specs.Stream.{Fair, count_of, Stream}
use Rattle.demand.proofs.Packets.{of_append, index_add, numbered_length}
use Rattle.demand.proofs.Chunks.{chunks_length, rests_add, begun_add}
use Rattle.delivery.specs.Delivered.{fresh_ear, delivered_of}
use Rattle.delivery.specs.Whole.{delivered_in}
use Rattle.delivery.specs.Loss.{Stretch, sent_over, came_over, Short, begins, ends, within, uncut}
use Rattle.delivery.proofs.Hear.{fresh_ok}
use Rattle.delivery.proofs.Lines.{heard}
use Rattle.delivery.proofs.Lists.{middle}
use Rattle.delivery.proofs.Passing.{packets_more}
use Rattle.delivery.proofs.Come.{fresh_line}
use Rattle.delivery.proofs.Resumed.{from_here, resumed}

-- ---- indexes
index_in : (n : ℕ) → index_after n 0 < 8
unfolding index_after
index_in zero = omega arith
index_in (suc n) = omega arith

index_is : (g i : ℕ) → i < 8 → index_after g i ≡ (i + g) % 8
unfolding index_after
index_is zero i h = omega arith
index_is (suc g) i h = ap (λ (m : ℕ). (m + 1) % 8) (index_is g i h) ∙ omega arith

-- one to seven packets on, it is another
index_other : (g i : ℕ) → i < 8 → 1 ≤ g → g ≤ 7 → index_after g i ≡ i → ⊥
index_other g i h lo hi e = omega (arith, index_is g i h)

after_noted : (l : Line) (i : ℕ) (c : Chunk) → ((line_after l i c).link.heard ≡ true) × ((line_after l i c).link.index ≡ (i + 1) % 8)
unfolding line_after link_after link_with
after_noted l i c =
    go (null_of c.first c.last (length c.body)) (kept l.link i) (adds l.link i c.first c.last (length c.body) && not c.last) l.link.len _
  where
    go : (z a b : Bool) (n m : ℕ) → ((pick z (link_with i a n) (link_with i b m)).heard ≡ true) × ((pick z (link_with i a n) (link_with i b m)).index ≡ (i + 1) % 8)
    go true a b n m = (refl, refl)
    go false a b n m = (refl, refl)

not_kept : (l : Line) (i j : ℕ) → l.link.heard ≡ true → l.link.index ≡ j → (i ≡ j → ⊥) → kept l.link i ≡ false
unfolding kept
not_kept l i j h e f = rw (h, e, ne_eqb i j f) (go l.link.begun)
  where
    go : (b : Bool) → b && false ≡ false
    go true = refl
    go false = refl

-- ---- the packets of a queue, the first n and then the others
module _ (p id : ℕ) where
  packets_add : (i n m : ℕ) (b : Bool) (us : List (List ℕ))
      → numbered id i (chunks p (n + m) b us) ≡ numbered id i (chunks p n b us) ++ numbered id (index_after n i) (chunks p m (begun_after p n b us) (rests p n us))
  unfolding chunks numbered
  packets_add i n zero b us = let z : n + 0 ≡ n = omega arith in ap (λ (k : ℕ). numbered id i (chunks p k b us)) z ∙ sym (append-nil (numbered id i (chunks p n b us)))
  packets_add i n (suc m) b us =
      let z : n + suc m ≡ suc (n + m) = omega arith in
      let c = begun_after p n b us in
      let vs = rests p n us in
      let j = index_after n i in
      let k : Packet = record { id = id; index = index_after m j; chunk = chunk_of p (begun_after p m c vs) (rests p m vs) } in
      ap (λ (k : ℕ). numbered id i (chunks p k b us)) z
      ∙ packets_more p id i (n + m) b us
      ∙ ap₂ (λ (l : List Packet) (k : Packet). l ++ (k ∷ [])) (packets_add i n m b us)
      (ap₂ (λ (x : ℕ) (y : Chunk). record { id = id; index = x; chunk = y }) (index_add n m i) (ap₂ (chunk_of p) (begun_add p n m b us) (rests_add p n m us)))
      ∙ append_assoc (numbered id i (chunks p n b us)) (numbered id j (chunks p m c vs)) (k ∷ [])
      ∙ ap (λ (l : List Packet). numbered id i (chunks p n b us) ++ l) (sym (packets_more p id j m c vs))

  pub record Apart (xs ys : List Packet) (i : ℕ) (b : Bool) (us : List (List ℕ)) : Type 0 where
    pub first : xs ≡ numbered id i (chunks p (length xs) b us)
    pub second : ys ≡ numbered id (index_after (length xs) i) (chunks p (length ys) (begun_after p (length xs) b us) (rests p (length xs) us))

  pub apart : (xs ys : List Packet) (i n : ℕ) (b : Bool) (us : List (List ℕ)) → xs ++ ys ≡ numbered id i (chunks p n b us) → Apart xs ys i b us
  apart xs ys i n b us e =
      let x = length xs in
      let y = length ys in
      let P = numbered id i (chunks p x b us) in
      let Q = numbered id (index_after x i) (chunks p y (begun_after p x b us) (rests p x us)) in
      let z : n ≡ x + y = sym (chunks_length p n b us) ∙ sym (numbered_length id i (chunks p n b us)) ∙ sym (ap length e) ∙ length-append xs ys in
      let f : xs ++ ys ≡ P ++ Q = e ∙ ap (λ (k : ℕ). numbered id i (chunks p k b us)) z ∙ packets_add i x y b us in
      let l : length P ≡ x = numbered_length id i (chunks p x b us) ∙ chunks_length p x b us in
      record {
        first = sym (take_at xs ys x refl) ∙ ap (take x) f ∙ take_at P Q x l;
        second = sym (drop_at xs ys x refl) ∙ ap (drop x) f ∙ drop_at P Q x l;
      }

-- ---- flags counted
begins_append : (ks js : List Packet) → begins (ks ++ js) ≡ begins ks + begins js
unfolding begins
begins_append [] js = omega arith
begins_append (k ∷ ks) js = omega (arith, begins_append ks js)

ends_append : (ks js : List Packet) → ends (ks ++ js) ≡ ends ks + ends js
unfolding ends
ends_append [] js = omega arith
ends_append (k ∷ ks) js = omega (arith, ends_append ks js)

-- a packet with a last flag leaves one unit less
rest_count : (p : ℕ) (b : Bool) (us : List (List ℕ)) → length (rest_of p us) ≡ length us - pick (chunk_of p b us).last 1 0
unfolding rest_of chunk_of
rest_count p b [] = refl
rest_count p b (u ∷ us) = go (leb (length u) p)
  where
    go : (t : Bool) → length (pick t us (drop p u ∷ us)) ≡ suc (length us) - pick t 1 0
    go true = omega arith
    go false = omega arith

-- one with a first flag leaves one unit less to begin
here_next : (p : ℕ) (us : List (List ℕ)) → from_here (begun_of p us) (rest_of p us) ≡ drop 1 us
unfolding rest_of begun_of
here_next p [] = refl
here_next p (u ∷ us) = go (leb (length u) p)
  where
    go : (t : Bool) → pick (not t) (drop 1 (pick t us (drop p u ∷ us))) (pick t us (drop p u ∷ us)) ≡ us
    go true = refl
    go false = refl

here_less : (p : ℕ) (b : Bool) (us : List (List ℕ)) → drop (pick (chunk_of p b us).first 1 0) (from_here b us) ≡ drop 1 us
unfolding chunk_of
here_less p true [] = refl
here_less p false [] = refl
here_less p true (u ∷ us) = refl
here_less p false (u ∷ us) = refl

fair_drop : (n : ℕ) (us : List (List ℕ)) → Fair us → Fair (drop n us)
fair_drop zero us f = f
fair_drop (suc n) [] f = f
fair_drop (suc n) (u ∷ us) f = fair_drop n us (record { some = f.some.1; fit = f.fit.1 })

-- ---- the packets that carry the units A from the first on
module _ (p id : ℕ) (A : List (List ℕ)) (fair : Fair A) where
  -- the first a packets, what is left of A behind them, whether that is begun, and the index then
  abbrev sent : ℕ → List Packet
  sent a = numbered id 0 (chunks p a false A)

  abbrev left : ℕ → List (List ℕ)
  left a = rests p a A

  abbrev begun : ℕ → Bool
  begun a = begun_after p a false A

  abbrev index : ℕ → ℕ
  index a = index_after a 0

  -- the n packets behind them
  abbrev next : ℕ → ℕ → List Packet
  next a n = numbered id (index a) (chunks p n (begun a) (left a))

  left_count : (a : ℕ) → length (left a) ≡ length A - ends (sent a)
  unfolding rests chunks numbered ends
  left_count zero = omega arith
  left_count (suc a) =
      let c = chunk_of p (begun a) (left a) in
      let k : Packet = record { id = id; index = index a; chunk = c } in
      omega (arith, rest_count p (begun a) (left a), left_count a, ap ends (packets_more p id 0 a false A), ends_append (sent a) (k ∷ []))

  here_is : (a : ℕ) → from_here (begun a) (left a) ≡ drop (begins (sent a)) A
  unfolding rests begun_after chunks numbered begins
  here_is zero = refl
  here_is (suc a) =
      let c = chunk_of p (begun a) (left a) in
      let k : Packet = record { id = id; index = index a; chunk = c } in
      let x : ℕ = pick c.first 1 0 in
      let e : begins (sent (suc a)) ≡ begins (sent a) + x = ap begins (packets_more p id 0 a false A) ∙ begins_append (sent a) (k ∷ []) ∙ omega arith in
      here_next p (left a)
      ∙ sym (here_less p (begun a) (left a))
      ∙ ap (drop x) (here_is a)
      ∙ drop-drop x (begins (sent a)) A
      ∙ ap (λ (n : ℕ). drop n A) (sym e)

  -- a stretch: what its packets complete is what begins and ends in it
  stretch_units : (a n : ℕ) (l : Line) → (begun a ≡ true → kept l.link (index a) ≡ false)
      → units_through l (next a n) ≡ drop (begins (sent a)) (take (ends (sent (a + n))) A)
  stretch_units a n l h =
      resumed p id n (begun a) (left a) (index a) l (subst Fair (sym (here_is a)) (fair_drop (begins (sent a)) A fair)) h
      ∙ ap₂ (λ (us : List (List ℕ)) (m : ℕ). take (length us - m) us) (here_is a) (ap length (sym (rests_add p a n A)) ∙ left_count (a + n))
      ∙ middle (begins (sent a)) (ends (sent (a + n))) A

  within_is : (before ss : List (List ℕ)) (a n : ℕ) → of_id p id before ≡ sent a → of_id p id ss ≡ next a n
      → drop (begins (sent a)) (take (ends (sent (a + n))) A) ≡ within p id A before ss
  unfolding within
  within_is before ss a n e f =
      ap₂ (λ (ks js : List Packet). drop (begins ks) (take (ends js) A)) (sym e)
      (packets_add p id 0 a n false A ∙ sym (of_append p id before ss ∙ ap₂ (λ (ks js : List Packet). ks ++ js) e f))

  -- after a stretch and a gap the line has no unit of which packets are still to come
  gap_kept : (a n g : ℕ) (l : Line) → 1 ≤ n → 1 ≤ g → g ≤ 7 → kept (line_through l (next a n)).link (index (a + n + g)) ≡ false
  unfolding line_through index_after
  gap_kept a zero g l hn lo hi = absurd (omega arith)
  gap_kept a (suc n) g l hn lo hi =
      let j = index_after n (index a) in
      let c = chunk_of p (begun_after p n (begun a) (left a)) (rests p n (left a)) in
      let k : Packet = record { id = id; index = j; chunk = c } in
      let m = line_through l (next a n) in
      let e : line_through l (next a (suc n)) ≡ line_after m j c = ap (line_through l) (packets_more p id (index a) n (begun a) (left a)) ∙ through_append l (next a n) (k ∷ []) in
      let o = after_noted m j c in
      not_kept (line_through l (next a (suc n))) (index (a + suc n + g)) (index (a + suc n)) (ap (λ (x : Line). x.link.heard) e ∙ o.0)
      (ap (λ (x : Line). x.link.index) e ∙ o.1 ∙ sym (index_add a (suc n) 0))
      (λ z. index_other g (index (a + suc n)) (index_in (a + suc n)) lo hi (sym (index_add (a + suc n) g 0) ∙ z))

  next_add : (a n m : ℕ) → numbered id (index_after n (index a)) (chunks p m (begun_after p n (begun a) (left a)) (rests p n (left a))) ≡ next (a + n) m
  next_add a n m =
      ap₂ (λ (i : ℕ) (cs : List Chunk). numbered id i cs) (sym (index_add a n 0))
      (ap₂ (λ (b : Bool) (us : List (List ℕ)). chunks p m b us) (sym (begun_add p a n false A)) (sym (rests_add p a n A)))

  survive : (ts : List Stretch) (last before : List (List ℕ)) (a n : ℕ) (l : Line) → of_id p id before ≡ sent a → of_id p id (sent_over ts last) ≡ next a n
      → (begun a ≡ true → kept l.link (index a) ≡ false) → Short p id ts
      → units_through l (of_id p id (came_over ts last)) ≡ uncut p id A before ts last
  unfolding sent_over came_over uncut
  survive [] last before a n l e f h short = ap (units_through l) f ∙ stretch_units a n l h ∙ within_is before last a n e f
  survive (t ∷ ts) last before a n l e f h short =
      let W = of_id p id t.whole in
      let G = of_id p id t.gap in
      let R = of_id p id (sent_over ts last) in
      let C = of_id p id (came_over ts last) in
      let w = length W in
      let g = length G in
      let all : W ++ (G ++ R) ≡ next a n =
      sym (of_append p id t.whole (t.gap ++ sent_over ts last) ∙ ap (λ (ks : List Packet). W ++ ks) (of_append p id t.gap (sent_over ts last))) ∙ f in
      let x = apart p id W (G ++ R) (index a) n (begun a) (left a) all in
      let y = apart p id G R (index (a + w)) (length (G ++ R)) (begun (a + w)) (left (a + w)) (x.second ∙ next_add a w (length (G ++ R))) in
      let z : R ≡ next (a + w + g) (length R) = y.second ∙ next_add (a + w) g (length R) in
      let m = line_through l W in
      let came : of_id p id (t.whole ++ (t.instead ++ came_over ts last)) ≡ W ++ C =
      of_append p id t.whole (t.instead ++ came_over ts last)
      ∙ ap (λ (ks : List Packet). W ++ ks) (of_append p id t.instead (came_over ts last) ∙ ap (λ (ks : List Packet). ks ++ C) short.3) in
      let front : of_id p id (before ++ (t.whole ++ t.gap)) ≡ sent (a + w + g) =
      of_append p id before (t.whole ++ t.gap)
      ∙ ap₂ (λ (ks js : List Packet). ks ++ js) e (of_append p id t.whole t.gap ∙ ap₂ (λ (ks js : List Packet). ks ++ js) x.first y.first)
      ∙ sym (append_assoc (sent a) (next a w) (next (a + w) g))
      ∙ ap (λ (ks : List Packet). ks ++ next (a + w) g) (sym (packets_add p id 0 a w false A))
      ∙ sym (packets_add p id 0 (a + w) g false A) in
      ap (units_through l) came
      ∙ units_append l W C
      ∙ ap₂ (λ (us vs : List (List ℕ)). us ++ vs)
      (ap (units_through l) x.first ∙ stretch_units a w l h ∙ within_is before t.whole a w e x.first)
      (survive ts last (before ++ (t.whole ++ t.gap)) (a + w + g) (length R) m front z
      (λ b. ap (λ (ks : List Packet). kept (line_through l ks).link (index (a + w + g))) x.first ∙ gap_kept a w g l short.0 short.1 short.2) short.4)

idle_kept : (i : ℕ) → kept idle.link i ≡ false
unfolding kept
idle_kept i = refl

-- ---- the theorem
-- Packets of a run given to a fresh receiver: it began to listen after `start` was sent, and then in each gap one to seven packets of id were
-- lost. The units of id delivered are those that no gap cut, in order, byte for byte
pub uncut_come : (p : ℕ) (es : List Event) (buffer : List ℕ) → Stream p es → length buffer ≡ 16384 → (id : ℕ) → id < 3
    → (start : List (List ℕ)) (ts : List Stretch) (last : List (List ℕ)) → sent_of es ≡ start ++ sent_over ts last → Short p id ts
    → delivered_of p id (fresh_ear buffer) (came_over ts last) ≡ uncut p id (accepted_of id es) start ts last
uncut_come p es buffer s hb id h start ts last e short =
    let A = accepted_of id es in
    let n = count_of p id es in
    let f : of_id p id start ++ of_id p id (sent_over ts last) ≡ numbered id 0 (chunks p n false A) =
    sym (ap (of_id p id) e ∙ of_append p id start (sent_over ts last)) ∙ s.units id h in
    let x = apart p id (of_id p id start) (of_id p id (sent_over ts last)) 0 n false A f in
    (heard p id (fresh_ear buffer) (came_over ts last) (fresh_ok buffer hb)).units
    ∙ ap (λ (l : Line). units_through l (of_id p id (came_over ts last))) (fresh_line buffer id)
    ∙ survive p id A (s.fair id) ts last start (length (of_id p id start)) (length (of_id p id (sent_over ts last))) idle x.first x.second
    (λ b. idle_kept (index_after (length (of_id p id start)) 0)) short

-- with nothing lost: the units whose last packet was sent
pub ended_come : (p : ℕ) (es : List Event) (buffer : List ℕ) → Stream p es → length buffer ≡ 16384 → (id : ℕ) → id < 3
    → delivered_in p id es buffer ≡ take (ends (of_id p id (sent_of es))) (accepted_of id es)
unfolding sent_over came_over uncut within begins readable own
ended_come p es buffer s hb id h = uncut_come p es buffer s hb id h [] [] (sent_of es) refl tt
