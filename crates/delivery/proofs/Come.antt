-- C6: what was wholly sent comes back per id, in order, byte for byte. Assumes nothing.
use Prim.Native.Nat.{ℕ, zero, suc, ◌<◌}
use mathlib.Core.Path.{◌≡◌, refl, ap₂, ◌∙◌}
use mathlib.Core.List.{List, ◌++◌}
use mathlib.Core.Bool.{false}
use lib.ListN.{length}
use Rattle.packet.specs.Packet.{Packet}
use Rattle.row.specs.Content.{chunks, rests}
use Rattle.receiver.specs.Receiver as receives
use Rattle.receiver.specs.Line.{Line, idle, line_through, units_through, line_of}
use Rattle.demand.specs.Bytes.{numbered}
use Rattle.demand.specs.Log.{Event, accepted_of, sent_of, left_of}
use Rattle.demand.specs.Stream.{count_of, Stream}
use Rattle.delivery.specs.Delivered.{fresh_ear, line_at, hear_all}
use Rattle.delivery.specs.Whole.{wholly_sent, delivered_in, wholes, pending_in}
use Rattle.delivery.proofs.Hear.{fresh_ok}
use Rattle.delivery.proofs.Lines.{heard}
use Rattle.delivery.proofs.Passing.{gone, idle_linked, wholes_idle, wholes_length}
use Rattle.delivery.proofs.Lists.{front}

pub fresh_line : (buffer : List ℕ) (id : ℕ) → line_at (fresh_ear buffer) id ≡ idle
unfolding line_of receives.fresh
fresh_line buffer zero = refl
fresh_line buffer (suc zero) = refl
fresh_line buffer (suc (suc zero)) = refl
fresh_line buffer (suc (suc (suc zero))) = refl
fresh_line buffer (suc (suc (suc (suc id)))) = refl

-- every packet of a run is given to a fresh receiver
module _ (p : ℕ) (es : List Event) (buffer : List ℕ) (s : Stream p es) (hb : length buffer ≡ 16384) (id : ℕ) (h : id < 3) where
  abbrev A : List (List ℕ)
  A = accepted_of id es

  abbrev K : List Packet
  K = numbered id 0 (chunks p (count_of p id es) false A)

  units_are : delivered_in p id es buffer ≡ units_through idle K
  units_are = (heard p id (fresh_ear buffer) (sent_of es) (fresh_ok buffer hb)).units ∙ ap₂ units_through (fresh_line buffer id) (s.units id h)

  line_is : line_at (hear_all p (fresh_ear buffer) (sent_of es)) id ≡ line_through idle K
  line_is = (heard p id (fresh_ear buffer) (sent_of es) (fresh_ok buffer hb)).line ∙ ap₂ line_through (fresh_line buffer id) (s.units id h)

  -- what was delivered so far, and behind it what is pending, is what was accepted so far
  pub all_come : delivered_in p id es buffer ++ pending_in p id es buffer ≡ A
  unfolding left_of
  all_come =
      let n = count_of p id es in
      ap₂ (λ (u : List (List ℕ)) (m : Line). u ++ wholes m (rests p n A)) units_are line_is
      ∙ (gone p id n A false 0 idle (idle_linked A 0 (s.fair id))).same
      ∙ wholes_idle A

  -- the units delivered are exactly those wholly sent, in order, byte for byte
  pub wholly_sent_come : delivered_in p id es buffer ≡ wholly_sent p id es
  unfolding wholly_sent
  wholly_sent_come =
      front (delivered_in p id es buffer) (pending_in p id es buffer) A (length (left_of p id es)) all_come
      (wholes_length (line_at (hear_all p (fresh_ear buffer) (sent_of es)) id) (left_of p id es))
