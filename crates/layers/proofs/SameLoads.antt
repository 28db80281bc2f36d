-- A load into a ring and the same load in the layout of before. Assumes nothing.
use Prim.Native.Nat.{ℕ, ◌+◌, ◌*◌, ◌≤◌, ◌<◌}
use mathlib.Core.Path.{◌≡◌, refl, sym, ap, ◌∙◌}
use mathlib.Core.List.{List, [], ◌∷◌, ◌++◌}
use mathlib.Core.Bool.{Bool, true, false}
use native.Mathlib.Omega.{arith}
use borrow.Author.Tests.{eqb-true, eqb-false}
use lib.Dec.{eqb}
use lib.ListN.{length, take}
use lib.Seq.{take_all}
use Rattle.laws.specs.Part.{part_of}
use Rattle.laws.specs.Pick.{pick}
use Rattle.laws.specs.Written.{written}
use Rattle.laws.proofs.Written.{written_length, take_written, front}
use Rattle.hand.specs.Hand.{no_three}
use Rattle.hand.specs.declared.Settings.{Settings}
use Rattle.queue.specs.Queue.{add_up, same, units, unsent, pushed}
use Rattle.queue.specs.declared.Queue.{Queue}
use Rattle.queue.proofs.Sums.{add_up_append}
use Rattle.queue.proofs.Keep.{pushed_units}
use Rattle.ring.specs.Ring.{turned, around, ahead}
use Rattle.ring.proofs.Turned.{turned_length, turned_around, around_length, ahead_modulo}
use Rattle.sender.specs.State.{queue_of}
use Rattle.sender.specs.Load.{loaded, placed_in}
use Rattle.sender.specs.Kept.{kept, kept_load_number, kept_load_for, kept_store_for}
use Rattle.sender.specs.Rings.{front_of, kept_of, ring_start, ring_of, behind_unsent, placed_around, ring_loaded, ring_load_for, ring_store_for}
use Rattle.sender.specs.Private.{Accepted}
use Rattle.sender.specs.declared.Front.{Front}
use Rattle.sender.proofs.Unrolled.{part_length}
use Rattle.demand.specs.Run.{load}
use Rattle.demand.proofs.Good.{Good, loaded_queue, taken_good}
use Rattle.demand.proofs.Store.{written_own, written_other}
use Rattle.layers.specs.KeptRun.{plain, after_kept, answer_kept}
use Rattle.layers.specs.Run.{RingDesk, after_ring, answer_ring}
use Rattle.layers.specs.Rings.{Same}
use Rattle.layers.proofs.SameChecks.{beside, load_number_law, load_passed, good_here}

pushed_unsent : (q : Queue) (n : ℕ) → length q.left ≡ 8 → q.count < 8 → unsent (pushed q n) ≡ unsent q + n
unfolding unsent add_up
pushed_unsent q n e h = ap (add_up same) (pushed_units q n e h) ∙ add_up_append same (units q) (n ∷ []) ∙ omega arith

-- ---- an accepted unit
module _ (store : List ℕ) (y : RingDesk) (k : Same (beside store y) y) (p j : ℕ) (unit : List ℕ) (good : Good p (plain (beside store y)))
    (a : Accepted (front_of y.state) j (length unit) (length store)) where
  abbrev f : Front
  f = front_of y.state

  abbrev u : ℕ
  u = unsent (queue_of f j)

  -- the part of the unit's queue, where it starts, and the part with the unit
  abbrev part : List ℕ
  part = part_of y.store j

  abbrev from : ℕ
  from = ring_start y.state j

  abbrev ring : List ℕ
  ring = around part (behind_unsent y.state j) unit

  full : length y.store ≡ 12288
  full = sym k.long ∙ a.whole

  part_full : length part ≡ 4096
  part_full = part_length y.store j a.id_in full

  ring_full : length ring ≡ 4096
  ring_full =
      let p = part_full in
      let m = a.most in
      around_length part (behind_unsent y.state j) unit (omega arith) (omega arith) ∙ p

  room : (d : List ℕ) → length d ≡ 12288 → j * 4096 + 4096 ≤ length d
  room d l = let i = a.id_in in omega arith

  placed_is : placed_around y.state j unit y.store ≡ written y.store (j * 4096 + 0) ring
  unfolding placed_around
  placed_is = let z : j * 4096 ≡ j * 4096 + 0 = omega arith in ap (λ (b : ℕ). written y.store b ring) z

  -- the rings after it
  own_part : part_of (placed_around y.state j unit y.store) j ≡ ring
  own_part =
      let l = ring_full in
      let m = part_full in
      ap (λ (d : List ℕ). part_of d j) placed_is
      ∙ written_own y.store j 0 ring (room y.store full) (omega arith)
      ∙ sym (take_all 4096 (written part 0 ring) (omega (arith, written_length part 0 ring (omega arith))))
      ∙ front part ring 4096 l

  own_ring : ring_of y.state.start (placed_around y.state j unit y.store) j ≡ written (ring_of y.state.start y.store j) u unit
  own_ring =
      let m = part_full in
      let n = k.near j a.id_in in
      let b = a.fits in
      let z : ahead (length part) from u ≡ behind_unsent y.state j = ap (λ (l : ℕ). ahead l from u) m ∙ ahead_modulo from u (omega arith) (omega arith) in
      ap (turned from) (own_part ∙ ap (λ (at : ℕ). around part at unit) (sym z)) ∙ turned_around from u part unit (omega arith) (omega arith)

  other_part : (id : ℕ) → (id ≡ j → ⊥) → part_of (placed_around y.state j unit y.store) id ≡ part_of y.store id
  other_part id e =
      let l = ring_full in ap (λ (d : List ℕ). part_of d id) placed_is ∙ written_other y.store j 0 ring (room y.store full) (omega arith) id e

  -- the bytes to send, of its queue and of each other
  own : take (u + length unit) (part_of (placed_in f j unit store) j) ≡ take (u + length unit) (ring_of y.state.start (placed_around y.state j unit y.store) j)
  unfolding placed_in
  own =
      let b = a.fits in
      let lf = part_length store j a.id_in a.whole in
      let lt = turned_length from part in
      let lp = part_full in
      ap (take (u + length unit)) (written_own store j u unit (room store a.whole) (omega arith))
      ∙ take_written (part_of store j) u unit (omega arith)
      ∙ ap (λ (l : List ℕ). l ++ unit) (k.bytes j a.id_in)
      ∙ sym (take_written (turned from part) u unit (omega arith))
      ∙ ap (take (u + length unit)) (sym own_ring)

  other : (id : ℕ) → id < 3 → (id ≡ j → ⊥)
      → take (unsent (queue_of f id)) (part_of (placed_in f j unit store) id)
      ≡ take (unsent (queue_of f id)) (ring_of y.state.start (placed_around y.state j unit y.store) id)
  unfolding placed_in
  other id h e =
      let b = a.fits in
      ap (take (unsent (queue_of f id))) (written_other store j u unit (room store a.whole) (omega arith) id e)
      ∙ k.bytes id h
      ∙ ap (λ (d : List ℕ). take (unsent (queue_of f id)) (turned (ring_start y.state id) d)) (sym (other_part id e))

  bytes : (id : ℕ) → id < 3 → take (unsent (queue_of (loaded f j (length unit)) id)) (part_of (placed_in f j unit store) id)
      ≡ take (unsent (queue_of (loaded f j (length unit)) id)) (ring_of y.state.start (placed_around y.state j unit y.store) id)
  bytes id h = rw (loaded_queue f j id (length unit) k.three a.id_in) (go (eqb id j) refl)
    where
      go : (b : Bool) → eqb id j ≡ b
          → take (unsent (pick b (pushed (queue_of f j) (length unit)) (queue_of f id))) (part_of (placed_in f j unit store) id)
          ≡ take (unsent (pick b (pushed (queue_of f j) (length unit)) (queue_of f id))) (ring_of y.state.start (placed_around y.state j unit y.store) id)
      go false e = other id h (eqb-false id j e)
      go true e =
          let z : id ≡ j = eqb-true id j e in
          rw (z, pushed_unsent (queue_of f j) (length unit) (k.eight j a.id_in) a.count_in) own

  loaded_same : Same (record { state = kept p (loaded f j (length unit)); store = placed_in f j unit store })
      (record { state = ring_loaded p y.state j (length unit); store = placed_around y.state j unit y.store })
  unfolding kept ring_loaded
  loaded_same =
      let after = taken_good p (plain (beside store y)) good j unit a in
      let l = ring_full in
      let m = full in
      let long : length (placed_around y.state j unit y.store) ≡ 12288 = ap length placed_is ∙ written_length y.store (j * 4096 + 0) ring (let i = a.id_in in omega arith) ∙ full in
      record {
        state = refl;
        near = k.near;
        long = after.store ∙ sym long;
        bytes = bytes;
        three = after.three;
        eight = λ id h. (after.queues id h).eight;
      }

-- ---- any load
module _ (store : List ℕ) (y : RingDesk) (k : Same (beside store y) y) (g : Settings) (j : ℕ) (unit : List ℕ) where
  abbrev number : ℕ
  number = kept_load_number g (kept_of y.state) j unit store

  pub load_answer : answer_ring (load g j unit) y ≡ answer_kept (load g j unit) (beside store y)
  unfolding answer_ring answer_kept ring_load_for kept_load_for
  load_answer = ap (λ (n : ℕ). record { number = n; packets = no_three; spares = 0; filler = 0; out = [] }) (load_number_law store y k g j unit)

  pub load_same : Same (after_kept (load g j unit) (beside store y)) (after_ring (load g j unit) y)
  unfolding after_kept after_ring ring_load_for ring_store_for kept_load_for kept_store_for
  load_same = rw (load_number_law store y k g j unit) (go (eqb number 0) refl)
    where
      go : (b : Bool) → eqb number 0 ≡ b
          → Same (record { state = pick b (kept g.p (loaded (front_of y.state) j (length unit))) (kept_of y.state); store = pick b (placed_in (front_of y.state) j unit store) store })
          (record { state = pick b (ring_loaded g.p y.state j (length unit)) y.state; store = pick b (placed_around y.state j unit y.store) y.store })
      go false e = k
      go true e =
          let h = load_passed store y k g j unit (eqb-true _ _ e) in
          loaded_same store y k g.p j unit (good_here store y k g.p h.fine h.unit.whole) h.unit
