-- Packets one behind the other: each id's line takes those of its own, whatever comes between. Assumes nothing.
use Prim.Native.Nat.{ℕ}
use mathlib.Core.Path.{◌≡◌, refl, sym, ap, ap₂, ◌∙◌, subst}
use mathlib.Core.List.{List, [], ◌∷◌, ◌++◌, append-nil}
use mathlib.Core.Bool.{Bool, true, false}
use borrow.Author.Tests.{eqb-true, eqb-false}
use lib.Dec.{eqb}
use Rattle.packet.specs.Packet.{Packet, decode}
use Rattle.packet.specs.Calls.{check_for}
use Rattle.receiver.specs.Line.{Line, line_after, units_by, line_through, units_through}
use Rattle.receiver.proofs.Lines.{through_append, units_append}
use Rattle.delivery.specs.Delivered.{Ear, line_at, hear, hear_all, unit_by, delivered_of}
use Rattle.demand.specs.Bytes.{readable, own}
use Rattle.delivery.proofs.Hear.{EarOk, came, refused_same, refused_none}

-- ---- what the receiver does with byte strings, by what those of id among them say
pub record Heard (p id : ℕ) (e : Ear) (ss : List (List ℕ)) : Type 0 where
  pub ok : EarOk (hear_all p e ss)
  pub line : line_at (hear_all p e ss) id ≡ line_through (line_at e id) (own id (readable p ss))
  pub units : delivered_of p id e ss ≡ units_through (line_at e id) (own id (readable p ss))

-- the first one, then the others
heard_then : (p id : ℕ) (e : Ear) (s : List ℕ) (ss : List (List ℕ)) (ks : List Packet)
    → line_at (hear p e s) id ≡ line_through (line_at e id) ks → unit_by p id e s ≡ units_through (line_at e id) ks
    → own id (readable p (s ∷ ss)) ≡ ks ++ own id (readable p ss) → Heard p id (hear p e s) ss → Heard p id e (s ∷ ss)
unfolding hear_all delivered_of
heard_then p id e s ss ks a b c h =
    let js = own id (readable p ss) in
    record {
      ok = h.ok;
      line = h.line ∙ ap (λ (l : Line). line_through l js) a ∙ sym (through_append (line_at e id) ks js) ∙ ap (line_through (line_at e id)) (sym c);
      units =
          ap₂ (λ (x y : List (List ℕ)). x ++ y) b (h.units ∙ ap (λ (l : Line). units_through l js) a)
          ∙ sym (units_append (line_at e id) ks js)
          ∙ ap (units_through (line_at e id)) (sym c);
    }

heard_one : (p id : ℕ) (e : Ear) (s : List ℕ) (ss : List (List ℕ)) → EarOk e → ((f : Ear) → EarOk f → Heard p id f ss)
    → (b : Bool) → eqb (check_for p s) 0 ≡ b → (d : Bool) → eqb id (decode p s).id ≡ d → Heard p id e (s ∷ ss)
unfolding readable own line_through units_through
heard_one p id e s ss o rest true h true f =
    let c = came p e s o h in
    let k = decode p s in
    let z : id ≡ k.id = eqb-true id k.id f in
    heard_then p id e s ss (k ∷ [])
    (ap (line_at (hear p e s)) z ∙ c.line ∙ ap (λ (j : ℕ). line_after (line_at e j) k.index k.chunk) (sym z))
    (ap (λ (j : ℕ). unit_by p j e s) z
    ∙ c.units
    ∙ ap (λ (j : ℕ). units_by (line_at e j) k.index k.chunk) (sym z)
    ∙ sym (append-nil (units_by (line_at e id) k.index k.chunk)))
    (rw (h, f)) (rest (hear p e s) c.ok)
heard_one p id e s ss o rest true h false f =
    let c = came p e s o h in
    let n = eqb-false id (decode p s).id f in
    heard_then p id e s ss [] (c.other id n) (c.none id n) (rw (h, f)) (rest (hear p e s) c.ok)
heard_one p id e s ss o rest false h d f =
    let z = refused_same p e s o h in
    heard_then p id e s ss [] (ap (λ (f : Ear). line_at f id) z) (refused_none p e s o h id) (rw h) (subst (λ (f : Ear). Heard p id f ss) (sym z) (rest e o))

pub heard : (p id : ℕ) (e : Ear) (ss : List (List ℕ)) → EarOk e → Heard p id e ss
unfolding hear_all delivered_of readable own line_through units_through
heard p id e [] o = record { ok = o; line = refl; units = refl }
heard p id e (s ∷ ss) o = heard_one p id e s ss o (λ f q. heard p id f ss q) (eqb (check_for p s) 0) refl (eqb id (decode p s).id) refl
