-- What an accepted load writes, place by place of the whole store. Assumes nothing.
use Prim.Native.Nat.{ℕ, ◌+◌, ◌-◌, ◌*◌, ◌%◌, ◌≤◌, ◌<◌}
use mathlib.Core.Path.{◌≡◌, refl, sym, ap, ◌∙◌, subst}
use mathlib.Core.List.{List}
use mathlib.Core.Bool.{Bool, true, false}
use native.Mathlib.Omega.{arith}
use borrow.Author.Tests.{eq-eqb, leb-true, leb-false, ltb-true, ltb-false}
use lib.Dec.{ltb, leb}
use lib.ListN.{length, get_or, drop}
use lib.Seq.{get_or-take, get_or-drop}
use Rattle.laws.specs.Part.{part_of}
use Rattle.laws.specs.Pick.{pick}
use Rattle.laws.specs.Written.{written}
use Rattle.laws.proofs.Written.{written_length, written_after, written_before, written_at}
use Rattle.hand.specs.declared.Settings.{Settings}
use Rattle.queue.specs.Queue.{unsent}
use Rattle.ring.specs.Ring.{around, ahead}
use Rattle.ring.proofs.Turned.{ahead_modulo, around_length, around_own, around_other}
use Rattle.sender.specs.State.{queue_of}
use Rattle.sender.specs.Rings.{front_of, ring_start, behind_unsent, placed_around, ring_load_number, ring_load_for, ring_store_for}
use Rattle.sender.specs.Private.{Entering}
use Rattle.sender.proofs.Checks.{entering_of}
use Rattle.sender.proofs.Unrolled.{part_length}
use Rattle.demand.specs.Run.{load}
use Rattle.layers.specs.Run.{RingDesk, after_ring, answer_ring}
use Rattle.layers.specs.Rings.{place_behind, Writes}

-- ---- the store with the unit
module _ (g : Settings) (id : ℕ) (unit : List ℕ) (y : RingDesk) (e : Entering g.p y.state id (length unit) (length y.store)) where
  abbrev store : List ℕ
  store = y.store

  abbrev placed : List ℕ
  placed = placed_around y.state id unit store

  abbrev part : List ℕ
  part = part_of store id

  abbrev first : ℕ
  first = behind_unsent y.state id

  abbrev ring : List ℕ
  ring = around part first unit

  hid : id < 3
  hid = e.unit.id_in

  whole : length store ≡ 12288
  whole = e.unit.whole

  most : length unit ≤ 4096
  most = e.unit.most

  part_long : length part ≡ 4096
  part_long = part_length store id hid whole

  first_in : first < 4096
  first_in = omega arith

  ring_long : length ring ≡ 4096
  ring_long = around_length part first unit (omega (arith, first_in, part_long)) (omega (arith, most, part_long)) ∙ part_long

  fits : id * 4096 + length ring ≤ length store
  fits = omega (arith, hid, whole, ring_long)

  -- the places of the unit need no bound on the start: the first is a remainder already
  spot : (j : ℕ) → j ≤ 4096 → ahead (length part) first j ≡ (ring_start y.state id + unsent (queue_of (front_of y.state) id) + j) % 4096
  spot j h = ap (λ (n : ℕ). ahead n first j) part_long ∙ ahead_modulo first j first_in h ∙ omega arith

  -- a byte of the part after the write, and before it
  after_at : (q : ℕ) → q < 4096 → get_or placed (id * 4096 + q) 0 ≡ get_or ring q 0
  unfolding placed_around
  after_at q h = written_at store (id * 4096) ring fits q (omega (arith, ring_long))

  before_at : (q : ℕ) → q < 4096 → get_or part q 0 ≡ get_or store (id * 4096 + q) 0
  before_at q h = get_or-take 4096 (drop (id * 4096) store) q 0 h ∙ get_or-drop (id * 4096) store q 0

  placed_long : length placed ≡ length store
  unfolding placed_around
  placed_long = written_length store (id * 4096) ring fits

  placed_own : (j : ℕ) → j < length unit → get_or placed (place_behind y id j) 0 ≡ get_or unit j 0
  placed_own j h =
      let k : j ≤ 4096 = omega (arith, most) in
      after_at _ (omega arith)
      ∙ ap (λ (q : ℕ). get_or ring q 0) (sym (spot j k))
      ∙ around_own part unit first (omega (arith, first_in, part_long)) (omega (arith, most, part_long)) j h

  module _ (i : ℕ) (no_byte : (j : ℕ) → j < length unit → i ≡ place_behind y id j → ⊥) where
    -- place q of the part stands j bytes behind the first that is written: past the unit, else i were the place of one of its bytes
    in_part : (q : ℕ) → i ≡ id * 4096 + q → (j : ℕ) → j < 4096 → (first + j) % 4096 ≡ q → get_or placed i 0 ≡ get_or store i 0
    in_part q ei j hj ej = go (ltb j (length unit)) refl
      where
        go : (b : Bool) → ltb j (length unit) ≡ b → get_or placed i 0 ≡ get_or store i 0
        go true t = absurd (no_byte j (ltb-true _ _ t) (omega arith))
        go false t =
            let k : length unit ≤ j = ltb-false _ _ t in
            let hq : q < 4096 = omega arith in
            let s : ahead (length part) first j ≡ q = spot j (omega arith) ∙ omega arith in
            ap (λ (x : ℕ). get_or placed x 0) ei
            ∙ after_at q hq
            ∙ ap (λ (x : ℕ). get_or ring x 0) (sym s)
            ∙ around_other part unit first (omega (arith, first_in, part_long)) (omega (arith, most, part_long)) j k (omega (arith, part_long))
            ∙ ap (λ (x : ℕ). get_or part x 0) s
            ∙ before_at q hq
            ∙ ap (λ (x : ℕ). get_or store x 0) (sym ei)

    placed_other : get_or placed i 0 ≡ get_or store i 0
    unfolding placed_around
    placed_other = go (ltb i (id * 4096)) refl (ltb i (id * 4096 + 4096)) refl (leb first (i - id * 4096)) refl
      where
        go : (a : Bool) → ltb i (id * 4096) ≡ a → (b : Bool) → ltb i (id * 4096 + 4096) ≡ b → (c : Bool) → leb first (i - id * 4096) ≡ c
            → get_or placed i 0 ≡ get_or store i 0
        go true ea b eb c ec = written_before store (id * 4096) ring fits i (ltb-true _ _ ea)
        go false ea false eb c ec =
            let h : id * 4096 + 4096 ≤ i = ltb-false _ _ eb in
            let k = i - (id * 4096 + 4096) in
            let z : i ≡ id * 4096 + length ring + k = omega (arith, ring_long) in
            ap (λ (x : ℕ). get_or (written store (id * 4096) ring) x 0) z
            ∙ written_after store (id * 4096) ring k fits
            ∙ ap (λ (x : ℕ). get_or store x 0) (sym z)
        go false ea true eb true ec =
            let l : id * 4096 ≤ i = ltb-false _ _ ea in
            let h : i < id * 4096 + 4096 = ltb-true _ _ eb in
            let k : first ≤ i - id * 4096 = leb-true _ _ ec in
            let q = i - id * 4096 in
            in_part q (omega arith) (q - first) (omega arith) (omega arith)
        go false ea true eb false ec =
            let l : id * 4096 ≤ i = ltb-false _ _ ea in
            let h : i < id * 4096 + 4096 = ltb-true _ _ eb in
            let k : i - id * 4096 < first = leb-false _ _ ec in
            let q = i - id * 4096 in
            in_part q (omega arith) (q + 4096 - first) (omega (arith, first_in)) (omega (arith, first_in))

  placed_writes : Writes id unit y placed
  placed_writes = record { long = placed_long; own = placed_own; other = placed_other }

pub load_writes : (g : Settings) (id : ℕ) (unit : List ℕ) (y : RingDesk) → (answer_ring (load g id unit) y).number ≡ 0
    → Writes id unit y (after_ring (load g id unit) y).store
unfolding answer_ring after_ring ring_load_for ring_store_for ring_load_number
load_writes g id unit y e =
    let s = y.state in
    let n : ring_load_number g s id unit y.store ≡ 0 = e in
    subst (Writes id unit y)
    (ap (λ (b : Bool). pick b (placed_around s id unit y.store) y.store) (sym (eq-eqb _ 0 n)))
    (placed_writes g id unit y (entering_of g s id (length unit) (length y.store) e))
