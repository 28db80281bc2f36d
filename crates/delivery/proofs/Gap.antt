-- One loss: the units that end before it come, then those that begin after it. Assumes nothing.
use Prim.Native.Nat.{ℕ, ◌<◌, ◌≤◌}
use mathlib.Core.Path.{◌≡◌, refl, sym, ap, ap₂, ◌∙◌}
use mathlib.Core.List.{List, [], ◌∷◌, ◌++◌, append_assoc}
use native.Mathlib.Omega.{arith}
use lib.ListN.{length, take, drop}
use Rattle.packet.specs.Packet.{Packet}
use Rattle.receiver.specs.Line.{units_through}
use Rattle.demand.specs.Bytes.{readable, own, of_id}
use Rattle.demand.specs.Log.{Event, accepted_of, sent_of}
use Rattle.demand.specs.Stream.{Stream}
use Rattle.demand.proofs.Packets.{of_append}
use Rattle.delivery.specs.Delivered.{fresh_ear, line_at, delivered_of}
use Rattle.delivery.specs.Loss.{sent_over, came_over, begins, ends, within, uncut}
use Rattle.delivery.proofs.Hear.{fresh_ok}
use Rattle.delivery.proofs.Lines.{heard}
use Rattle.delivery.proofs.Loss.{uncut_come}

-- Packets of a run given to a fresh receiver: all came that were sent before the gap and behind it, and of one to seven packets of id that were
-- sent in it none did. What came in their place does not matter
module _ (p : ℕ) (es : List Event) (buffer : List ℕ) (s : Stream p es) (hb : length buffer ≡ 16384) (id : ℕ) (h : id < 3)
    (before gap instead behind : List (List ℕ)) (e : sent_of es ≡ before ++ (gap ++ behind)) (lo : 1 ≤ length (of_id p id gap))
    (hi : length (of_id p id gap) ≤ 7) (none : of_id p id instead ≡ []) where
  abbrev A : List (List ℕ)
  A = accepted_of id es

  abbrev Came : Type 0
  Came =
      delivered_of p id (fresh_ear buffer) (before ++ (instead ++ behind))
      ≡ take (ends (of_id p id before)) A ++ drop (begins (of_id p id (before ++ gap))) (take (ends (of_id p id (before ++ (gap ++ behind)))) A)

  -- a packet of id came before it
  after_some : 1 ≤ length (of_id p id before) → Came
  unfolding sent_over came_over uncut within begins readable own
  after_some some =
      uncut_come p es buffer s hb id h [] (record { whole = before; gap = gap; instead = instead } ∷ []) behind e (some, lo, hi, none, tt)
      ∙ ap (λ (ss : List (List ℕ)). take (ends (of_id p id before)) A ++ drop (begins (of_id p id (before ++ gap))) (take (ends (of_id p id ss)) A)) (append_assoc before gap behind)

  -- it is the first contact
  after_none : of_id p id before ≡ [] → Came
  unfolding sent_over came_over uncut within ends
  after_none z =
      let l = line_at (fresh_ear buffer) id in
      let f : of_id p id (before ++ (instead ++ behind)) ≡ of_id p id behind =
      of_append p id before (instead ++ behind)
      ∙ ap₂ (λ (ks js : List Packet). ks ++ js) z (of_append p id instead behind ∙ ap (λ (ks : List Packet). ks ++ of_id p id behind) none) in
      (heard p id (fresh_ear buffer) (before ++ (instead ++ behind)) (fresh_ok buffer hb)).units
      ∙ ap (units_through l) f
      ∙ sym (heard p id (fresh_ear buffer) behind (fresh_ok buffer hb)).units
      ∙ uncut_come p es buffer s hb id h (before ++ gap) [] behind (e ∙ sym (append_assoc before gap behind)) tt
      ∙ ap₂ (λ (ks : List Packet) (ss : List (List ℕ)). take (ends ks) A ++ drop (begins (of_id p id (before ++ gap))) (take (ends (of_id p id ss)) A)) (sym z) (append_assoc before gap behind)

  pub gap_come : Came
  gap_come = go (of_id p id before) refl
    where
      go : (ks : List Packet) → of_id p id before ≡ ks → Came
      go [] z = after_none z
      go (k ∷ ks) z = after_some (omega (arith, ap length z))
