-- A unit enters the ring of its queue. Assumes nothing.
use Prim.Native.Nat.{ℕ, zero, suc, ◌+◌, ◌*◌, ◌%◌, ◌≤◌, ◌<◌}
use mathlib.Core.Path.{◌≡◌, refl, sym, ap, ap₂, ◌∙◌}
use mathlib.Core.List.{List, [], ◌∷◌, ◌++◌}
use mathlib.Core.Bool.{Bool, true, false, true≢false}
use native.Mathlib.Omega.{arith}
use borrow.Author.Tests.{le-leb, lt-leb, leb-true, leb-false, ltb-true, ltb-false, eqb-true, eqb-false, ne_eqb}
use lib.Dec.{ltb, leb, eqb, lit<}
use lib.ListN.{length, get_or, set, take, drop, get_or-eq_default}
use lib.Seq.{get_or-set_same, get_or-set_other}
use Rattle.laws.specs.Part.{part_of}
use Rattle.laws.specs.Pick.{pick}
use Rattle.laws.specs.Refuse.{refused_with}
use Rattle.laws.specs.Written.{written}
use Rattle.hand.specs.declared.Settings.{Settings}
use Rattle.moves.proofs.Parts.{part_written}
use Rattle.queue.specs.Queue.{unsent, waiting, packets, pushed}
use Rattle.queue.specs.declared.Queue.{Queue}
use Rattle.ring.specs.Ring.{around, copied_in}
use Rattle.ring.proofs.Turned.{around_length}
use Rattle.sender.specs.State.{no_queue, queue_of, put_queue}
use Rattle.sender.specs.Load.{full, loaded}
use Rattle.sender.specs.Kept.{stored_of, counts_of, kept}
use Rattle.sender.specs.Rings.{front_of, kept_of, ring_start, strayed, placed_around, ring_loaded, ring_load_number, ring_load_for, ring_store_for}
use Rattle.sender.specs.Private.{Shape, unit_tests, no_room, Entering}
use Rattle.sender.specs.declared.Front.{Front}
use Rattle.sender.specs.declared.Sender.{Sender}
use Rattle.sender.specs.declared.Loaded.{Loaded}
use Rattle.sender.proofs.Counts.{pushed_waiting, waiting_unsent}
use Rattle.sender.proofs.Kept.{right_counts}
use Rattle.sender.proofs.Unrolled.{part_length}
use Rattle.sender.proofs.Checks.{strayed_at, load_late, Offered, offered_of, entering_of}

-- ---- arrays
pub eights : (s : Sender) → Shape s → (id : ℕ) → id < 3 → length (queue_of (front_of s) id).left ≡ 8
eights s k zero h = k.eight_0
eights s k (suc zero) h = k.eight_1
eights s k (suc (suc zero)) h = k.eight_2
eights s k (suc (suc (suc id))) h = absurd (omega arith)

three_is : (l : List ℕ) → length l ≡ 3 → l ≡ get_or l 0 0 ∷ get_or l 1 0 ∷ get_or l 2 0 ∷ []
three_is [] e = absurd (omega arith)
three_is (a ∷ []) e = absurd (omega arith)
three_is (a ∷ b ∷ []) e = absurd (omega arith)
three_is (a ∷ b ∷ c ∷ []) e = refl
three_is (a ∷ b ∷ c ∷ d ∷ l) e = absurd (omega arith)

-- what stands for a queue past the third has no places, so a queue with eight of them is one of the state's
there : (f : Front) (id : ℕ) → length (queue_of f id).left ≡ 8 → id < length f.q
there f id e = go (leb (length f.q) id) refl
  where
    go : (b : Bool) → leb (length f.q) id ≡ b → id < length f.q
    go false t = leb-false _ _ t
    go true t = absurd (let z : length (queue_of f id).left ≡ 0 = ap (λ (q : Queue). length q.left) (get_or-eq_default f.q no_queue (leb-true _ _ t)) in omega arith)

put_at_law : (l : List Queue) (id j : ℕ) (q : Queue) → id < length l → (b : Bool) → eqb j id ≡ b → get_or (set l id q) j no_queue ≡ pick b q (get_or l j no_queue)
put_at_law l id j q h true e = let z : j ≡ id = eqb-true j id e in rw z (get_or-set_same l id q no_queue h)
put_at_law l id j q h false e = get_or-set_other l id j q no_queue (eqb-false j id e)

-- ---- room
pub room_eight : (q : Queue) (n bytes : ℕ) → 8 ≤ q.count → true ≡ no_room q n bytes
unfolding no_room
room_eight q n bytes h = simp (le-leb _ _ h)

pub room_rest : (q : Queue) (n bytes : ℕ) → q.count < 8 → ltb 4096 (n + bytes) ≡ no_room q n bytes
unfolding no_room
room_rest q n bytes h = simp (lt-leb _ _ h)

-- ---- the state with the unit
module _ (p : ℕ) (s : Sender) (id n room : ℕ) (a : Entering p s id n room) (sh : Shape s) where
  abbrev f : Front
  f = front_of s

  abbrev q : Queue
  q = queue_of f id

  abbrev w : List ℕ
  w = s.waiting

  hid : id < 3
  hid = a.unit.id_in

  stored_is : (j : ℕ) → j < 3 → stored_of (kept_of s) j ≡ waiting p (queue_of f j)
  stored_is = right_counts p (kept_of s) a.right

  more : waiting p (pushed q n) ≡ waiting p q + packets p n
  more = pushed_waiting p q n (eights s sh id hid) a.unit.count_in

  queue_after : (j : ℕ) → queue_of (loaded f id n) j ≡ pick (eqb j id) (pushed q n) (queue_of f j)
  unfolding loaded put_queue
  queue_after j = put_at_law f.q id j (pushed q n) (there f id (eights s sh id hid)) (eqb j id) refl

  -- the count of queue j after it
  count_after : (j : ℕ) → j < 3 → (b : Bool) → eqb j id ≡ b → waiting p (queue_of (loaded f id n) j) ≡ pick b (stored_of (kept_of s) id + packets p n) (stored_of (kept_of s) j)
  count_after j h true e =
      ap (waiting p) (queue_after j ∙ ap (λ (t : Bool). pick t (pushed q n) (queue_of f j)) e) ∙ more ∙ ap (λ (x : ℕ). x + packets p n) (sym (stored_is id hid))
  count_after j h false e = ap (waiting p) (queue_after j ∙ ap (λ (t : Bool). pick t (pushed q n) (queue_of f j)) e) ∙ sym (stored_is j h)

  -- one place set
  set_three : (j : ℕ) → j < 3 → (m : ℕ) → set w j m ≡ pick (eqb 0 j) m (get_or w 0 0) ∷ pick (eqb 1 j) m (get_or w 1 0) ∷ pick (eqb 2 j) m (get_or w 2 0) ∷ []
  set_three zero h m = ap (λ (l : List ℕ). set l 0 m) (three_is w sh.counts)
  set_three (suc zero) h m = ap (λ (l : List ℕ). set l 1 m) (three_is w sh.counts)
  set_three (suc (suc zero)) h m = ap (λ (l : List ℕ). set l 2 m) (three_is w sh.counts)
  set_three (suc (suc (suc j))) h m = absurd (omega arith)

  more_is : (k : ℕ) → k ≡ packets p n → set w id (get_or w id 0 + k) ≡ counts_of p (loaded f id n)
  more_is k ek =
      ap (λ (x : ℕ). set w id (get_or w id 0 + x)) ek
      ∙ set_three id hid (get_or w id 0 + packets p n)
      ∙ sym
      (ap₂ (λ (x : ℕ) (l : List ℕ). x ∷ l) (count_after 0 (lit< tt) (eqb 0 id) refl)
      (ap₂ (λ (x : ℕ) (l : List ℕ). x ∷ l) (count_after 1 (lit< tt) (eqb 1 id) refl) (ap (λ (x : ℕ). x ∷ []) (count_after 2 (lit< tt) (eqb 2 id) refl))))

  -- nothing wraps: a unit takes no more packets than bytes
  more_fits : (k : ℕ) → k ≤ n → get_or s.waiting id 0 + k ≤ 4096
  more_fits k hk = let u = a.unit.fits in omega (arith, stored_is id hid, waiting_unsent p (queue_of (front_of s) id) a.low)

-- ---- the store with the unit
-- no start is past 4,095
pub near : (s : Sender) → strayed s ≡ false → (id : ℕ) → id < 3 → ring_start s id < 4096
near s e id h = go (ltb 4095 (ring_start s id)) refl
  where
    go : (b : Bool) → ltb 4095 (ring_start s id) ≡ b → ring_start s id < 4096
    go true t = absurd (true≢false (strayed_at s id h (ltb-true _ _ t) ∙ e))
    go false t = let k : ring_start s id ≤ 4095 = ltb-false _ _ t in omega arith

-- bytes put around the end of the part of queue id, which is k bytes from place b of the store on
pub put_is : (id at b k : ℕ) (unit store y : List ℕ) → id < 3 → length store ≡ 12288 → at < 4096 → length unit ≤ 4096 → b ≡ id * 4096 → k ≡ 4096
    → y ≡ copied_in (take k (drop b store)) at unit → take b store ++ (y ++ drop k (drop b store)) ≡ written store (id * 4096) (around (part_of store id) at unit)
unfolding copied_in
put_is id at b k unit store y hid hs ha hn eb ek ey =
    let part = part_of store id in
    let lp : length part ≡ 4096 = part_length store id hid hs in
    let g : take k (drop b store) ≡ part = ap₂ (λ (x y : ℕ). take x (drop y store)) ek eb in
    let z : y ≡ around part at unit =
    ey ∙ ap (λ (l : List ℕ). copied_in l at unit) g ∙ simp (le-leb at (length part) (omega arith), le-leb (length unit) (length part) (omega arith)) in
    let ly : length y ≡ 4096 = ap length z ∙ around_length part at unit (omega arith) (omega arith) ∙ lp in
    part_written store y b k (omega arith) ∙ ap₂ (written store) eb z

-- ---- the call
module _ (g : Settings) (s : Sender) (id : ℕ) (unit store : List ℕ) where
  refused_with_law : (k : ℕ) → k ≡ ring_load_number g s id unit store → (k ≡ 0 → ⊥)
      → (◌≡◌ {A = Loaded} (record { number = k; next = s }) (ring_load_for g s id unit store)) × (store ≡ ring_store_for g s id unit store)
  unfolding ring_load_for ring_store_for
  refused_with_law k e h = (simp (← e, ne_eqb k 0 h), simp (← e, ne_eqb k 0 h))

  module _ (k : ℕ) (e : k ≡ refused_with (unit_tests g s id (length unit) (length store))) where
    number_is : ring_load_number g s id unit store ≡ pick (eqb k 0) (pick (full (front_of s) id (length unit)) 15 0) k
    unfolding ring_load_number
    number_is = load_late g s id (length unit) (length store) ∙ ap (λ (x : ℕ). pick (eqb x 0) (pick (full (front_of s) id (length unit)) 15 0) x) (sym e)

    pub load_refused_law : (k ≡ 0 → ⊥) → (◌≡◌ {A = Loaded} (record { number = k; next = s }) (ring_load_for g s id unit store)) × (store ≡ ring_store_for g s id unit store)
    load_refused_law h = refused_with_law k (sym (number_is ∙ ap (λ (b : Bool). pick b (pick (full (front_of s) id (length unit)) 15 0) k) (ne_eqb k 0 h))) h

    module _ (z : k ≡ 0) where
      pub load_offered : Offered g s id (length unit) (length store)
      load_offered = offered_of g s id (length unit) (length store) (sym e ∙ z)

      -- its queue v has u bytes to send; t says whether that leaves no room
      module _ (v : Queue) (ev : v ≡ queue_of (front_of s) id) (u : ℕ) (eu : u ≡ unsent v) (t : Bool) (et : t ≡ no_room v (length unit) u) where
        number_here : ring_load_number g s id unit store ≡ pick t 15 0
        unfolding full no_room
        number_here = number_is ∙ simp (z, et, eu, ev)

        pub load_full : t ≡ true → (◌≡◌ {A = Loaded} (record { number = 15; next = s }) (ring_load_for g s id unit store)) × (store ≡ ring_store_for g s id unit store)
        load_full h = refused_with_law 15 (sym (number_here ∙ ap (λ (b : Bool). pick b 15 0) h)) (λ z. absurd (omega arith))

        module _ (h : t ≡ false) where
          number_0 : ring_load_number g s id unit store ≡ 0
          number_0 = number_here ∙ ap (λ (b : Bool). pick b 15 0) h

          load_entering : Entering g.p s id (length unit) (length store)
          unfolding ring_load_number
          load_entering = entering_of g s id (length unit) (length store) number_0

          pub load_whole : length store ≡ 12288
          load_whole = load_entering.unit.whole

          module _ (sh : Shape s) (m : ℕ) where
            pub load_fits : m ≤ length unit → get_or s.waiting id 0 + m ≤ 4096
            load_fits = more_fits g.p s id (length unit) (length store) load_entering sh m

            pub load_done : (r : Queue) (d : List ℕ) → r ≡ pushed v (length unit) → m ≡ packets g.p (length unit) → (at : ℕ) → at ≡ (ring_start s id + u) % 4096
                → d ≡ written store (id * 4096) (around (part_of store id) at unit)
                → (◌≡◌ {A = Loaded}
                (record {
                  number = 0;
                  next = record { q = set s.q id r; turn = s.turn; index = s.index; waiting = set s.waiting id (get_or s.waiting id 0 + m); start = s.start };
                })
                (ring_load_for g s id unit store))
                × (d ≡ ring_store_for g s id unit store)
            unfolding ring_load_for ring_loaded ring_store_for placed_around kept loaded put_queue
            load_done r d er em at ea ed = (
              simp (number_0, more_is g.p s id (length unit) (length store) load_entering sh m em, er, ev),
              simp number_0
                  (ed
                  ∙ ap (λ (x : ℕ). written store (id * 4096) (around (part_of store id) x unit))
                  (ea ∙ ap (λ (x : ℕ). (ring_start s id + x) % 4096) (eu ∙ ap unsent ev))),
            )
