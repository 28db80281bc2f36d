-- Packets of an id one behind the other. Assumes nothing.
use Prim.Native.Nat.{ℕ}
use mathlib.Core.Path.{◌≡◌, refl, sym, ap, ◌∙◌}
use mathlib.Core.List.{List, [], ◌∷◌, ◌++◌, append_assoc}
use Rattle.packet.specs.Packet.{Packet}
use Rattle.receiver.specs.Line.{Line, line_after, units_by, line_through, units_through}

pub through_append : (l : Line) (ks js : List Packet) → line_through l (ks ++ js) ≡ line_through (line_through l ks) js
unfolding line_through
through_append l [] js = refl
through_append l (k ∷ ks) js = through_append (line_after l k.index k.chunk) ks js

pub units_append : (l : Line) (ks js : List Packet) → units_through l (ks ++ js) ≡ units_through l ks ++ units_through (line_through l ks) js
unfolding units_through line_through
units_append l [] js = refl
units_append l (k ∷ ks) js =
    let m = line_after l k.index k.chunk in
    ap (λ (us : List (List ℕ)). units_by l k.index k.chunk ++ us) (units_append m ks js)
    ∙ sym (append_assoc (units_by l k.index k.chunk) (units_through m ks) (units_through (line_through m ks) js))
