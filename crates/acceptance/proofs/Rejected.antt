-- No function that meets the promise of its call is one of the wrong programs that 01 lists: each is refuted by one input. Assumes nothing.
use Prim.Native.Nat.{ℕ}
use mathlib.Core.Path.{◌≡◌, refl, sym, ap, ◌∙◌}
use mathlib.Core.List.{List, [], ◌∷◌}
use native.Mathlib.Omega.{arith}
use lib.ListN.{get_or, replicate}
use Rattle.laws.specs.Big.{bytes_of}
use Rattle.laws.specs.Written.{written}
use Rattle.dispersal.specs.Dispersal as dispersal
use Rattle.hand.specs.Hand.{given_to, takers, spread, hand_out, plan_for, hand_for}
use Rattle.hand.specs.Settings.{unfit, settings_tests, settings_for}
use Rattle.hand.specs.declared.Settings.{Settings}
use Rattle.hand.specs.declared.Three.{Three}
use Rattle.queue.specs.Queue.{add_up, packets, unsent, waits, waiting, lengths, any_empty, any_over, broken, no_units, pushed}
use Rattle.queue.specs.Stored.{miscounts}
use Rattle.packet.specs.Packet.{head_of, data_of, plain_of, sealed, encode, decode}
use Rattle.ring.specs.Ring.{turned}
use Rattle.row.specs.Row.{head_len, popped, packet_at, stepped, steps, outs}
use Rattle.sender.specs.declared.Front.{Front}
use Rattle.sender.specs.declared.Sender.{Sender}
use Rattle.sender.specs.declared.Framed.{Framed}
use Rattle.sender.specs.declared.Loaded.{Loaded}
use Rattle.sender.specs.State.{queue_of, fresh, broken_state, put_queue, waiting_of}
use Rattle.sender.specs.Frame as frames
use Rattle.sender.specs.Load as loads
use Rattle.sender.specs.Kept.{kept, fresh_kept, miscounted, kept_load_tests, kept_frame_tests}
use Rattle.sender.specs.Rings.{front_of, fresh_rings, strayed, unrolled, ring_load_tests, ring_load_number, ring_loaded, ring_load_for, ring_frame_tests, ring_frame_number, ring_framed, ring_frame_for, ring_frame_out}
use Rattle.acceptance.specs.Wrong.{Disperser, Disperses, Copies, Loader, Loads, TakesNone, Framer, Frames, first_id, OnlyFiller, again, ThenFiller, ThenRefuses}

-- a zero byte becomes 07
abbrev zero : List ℕ
zero = 0 ∷ []

pub no_copier : (f : Disperser) → Disperses f → Copies f → ⊥
unfolding dispersal.output_for dispersal.number_for dispersal.tests_for dispersal.dispersed dispersal.dispersed_from dispersal.next dispersal.push written
no_copier f meets copies =
    let same : ◌≡◌ {A = ℕ} 0x07 0 = ap (λ (s : List ℕ). get_or s 0 0) (sym (meets zero zero).1 ∙ copies zero zero (meets zero zero).0) in
    omega arith

-- ---- one data byte a packet, one packet a frame, all of it queue 0's
abbrev three : ℕ → ℕ → ℕ → Three
three a b c = record { a = a; b = b; c = c }

abbrev small : Settings
small = record { p = 1; n = 1; share = three 1 0 0; ceiling = three 1 1 1 }

abbrev store : List ℕ
store = replicate 12288 0

-- a unit of two bytes is taken by a fresh sender
abbrev unit : List ℕ
unit = 1 ∷ 2 ∷ []

pub no_refuser : (f : Loader) → Loads f → TakesNone f → ⊥
unfolding ring_load_for ring_load_number ring_load_tests ring_loaded kept_load_tests loads.load_tests loads.loaded loads.full settings_for settings_tests unfit strayed
    miscounted miscounts broken_state broken fresh_rings fresh_kept fresh kept put_queue pushed any_empty any_over lengths unsent waiting waits add_up
no_refuser f meets none =
    let same : ◌≡◌ {A = ℕ} 1 0
    = ap (λ (s : Front). (queue_of s 0).count) (sym (ap (λ (l : Loaded). front_of l.next) (meets small fresh_rings 0 unit store).0) ∙ none small fresh_rings 0 unit store) in
    omega arith

-- ---- a sender whose queue 0 has that unit, two packets long, and whose counts say so
abbrev busy : Sender
busy =
    record {
      q = record { left = 2 ∷ replicate 7 0; count = 1; sent = 0 } ∷ no_units ∷ no_units ∷ [];
      turn = 0;
      index = replicate 4 0;
      waiting = 2 ∷ 0 ∷ 0 ∷ [];
      start = replicate 3 0;
    }

abbrev frame : List ℕ
frame = replicate 4 0

-- its first two frames, by computation
abbrev left : Sender
left = (ring_frame_for small busy store frame).next

abbrev left_frame : List ℕ
left_frame = ring_frame_out small busy store frame

two_frames : ((ring_frame_for small busy store frame).number ≡ 0) × (first_id 1 left_frame ≡ 0)
    × ((ring_frame_for small left store left_frame).number ≡ 0) × (first_id 1 (ring_frame_out small left store left_frame) ≡ 0)
unfolding ring_frame_for ring_frame_number ring_frame_tests ring_framed ring_frame_out unrolled turned strayed kept_frame_tests kept miscounted miscounts
    frames.frame_tests frames.framed frames.frame_bytes frames.frame_packets frames.row_at frames.nulls frames.hand_of frames.ends_of frames.next_from
    settings_for settings_tests unfit broken_state broken any_empty any_over lengths unsent add_up waiting_of waiting waits packets
    given_to takers spread hand_out plan_for hand_for written steps outs stepped packet_at head_len popped encode plain_of head_of data_of sealed bytes_of decode
two_frames = (refl, refl, refl, refl)

module _ (f : Framer) (meets : Frames f) where
  answer : (s : Sender) → (f small s store frame).0 ≡ ring_frame_for small s store frame
  answer s = (meets small s store frame).0

  served : (f small busy store frame).0.number ≡ 0
  served = ap (λ (a : Framed). a.number) (answer busy) ∙ two_frames.0

  state_left : (f small busy store frame).0.next ≡ left
  state_left = ap (λ (a : Framed). a.next) (answer busy)

  -- the next frame, handed what this one left and the same store
  next_answer : (again f small busy store frame).0 ≡ ring_frame_for small left store left_frame
  next_answer =
      let m = meets small busy store frame in
      let a = state_left in
      let b = m.1 in
      let n = (meets small (f small busy store frame).0.next store (f small busy store frame).1).0 in
      cc

  next_output : (again f small busy store frame).1 ≡ ring_frame_out small left store left_frame
  next_output =
      let m = meets small busy store frame in
      let a = state_left in
      let b = m.1 in
      let n = (meets small (f small busy store frame).0.next store (f small busy store frame).1).1 in
      cc

  -- queue 0 gets its share of the first frame
  pub no_filler : OnlyFiller f → ⊥
  no_filler only =
      let same : ◌≡◌ {A = ℕ} 0 3 = sym two_frames.1 ∙ ap (first_id 1) (sym (meets small busy store frame).1) ∙ only small busy store frame served in
      omega arith

  -- and of the second
  pub no_filler_after : ThenFiller f → ⊥
  no_filler_after then =
      let same : ◌≡◌ {A = ℕ} 0 3 = sym two_frames.3 ∙ ap (first_id 1) (sym next_output) ∙ then small busy store frame served in
      omega arith

  pub no_refusal_after : ThenRefuses f → ⊥
  no_refusal_after then = then small busy store frame served (ap (λ (a : Framed). a.number) next_answer ∙ two_frames.2)
