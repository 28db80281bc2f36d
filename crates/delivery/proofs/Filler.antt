-- The packets of id 3 are null packets, and bring no unit. Assumes nothing.
use Prim.Native.Nat.{ℕ, zero, suc, ◌+◌, ◌%◌}
use mathlib.Core.Path.{◌≡◌, refl, ap, ap₂, ◌∙◌}
use mathlib.Core.List.{List, [], ◌++◌}
use lib.ListN.{length, replicate}
use Rattle.packet.specs.Packet.{nothing}
use Rattle.receiver.specs.Line.{Line, line_after, units_through}
use Rattle.demand.specs.Bytes.{numbered}
use Rattle.demand.specs.Log.{Event, sent_of}
use Rattle.demand.specs.Stream.{count_of, Stream}
use Rattle.delivery.specs.Delivered.{fresh_ear, line_at}
use Rattle.delivery.specs.Whole.{delivered_in}
use Rattle.delivery.proofs.Hear.{fresh_ok}
use Rattle.delivery.proofs.Lines.{heard}
use Rattle.delivery.proofs.Resumed.{null_units}

no_units_law : (l : Line) (i n : ℕ) → units_through l (numbered 3 i (replicate n nothing)) ≡ []
unfolding units_through numbered
no_units_law l i zero = refl
no_units_law l i (suc n) = ap₂ (λ (x y : List (List ℕ)). x ++ y) (null_units l i) (no_units_law (line_after l i nothing) ((i + 1) % 8) n)

pub filler_brings_none : (p : ℕ) (es : List Event) (buffer : List ℕ) → Stream p es → length buffer ≡ 16384 → delivered_in p 3 es buffer ≡ []
filler_brings_none p es buffer s hb =
    let l = line_at (fresh_ear buffer) 3 in
    (heard p 3 (fresh_ear buffer) (sent_of es) (fresh_ok buffer hb)).units ∙ ap (units_through l) s.filler ∙ no_units_law l 0 (count_of p 3 es)
