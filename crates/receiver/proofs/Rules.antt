-- The step follows 01's rules in 01's order: its folded definitions are the ladder of specs/Rules. Assumes nothing.
use Prim.Native.Nat.{ℕ, ◌+◌}
use mathlib.Core.Path.{◌≡◌, refl}
use mathlib.Core.Bool.{Bool, true, false, not, ◌&&◌}
use lib.Dec.{leb}
use Rattle.laws.specs.Pick.{pick}
use Rattle.receiver.specs.declared.Link.{Link}
use Rattle.receiver.specs.Link.{kept, null_of, base_of, joins, adds, completes, link_with, link_after, fate_of, delivered, added, dropped, skipped}
use Rattle.receiver.specs.Rules.{Ruled, closes, comes_to, ruled}

-- both sides by their tests: c null, t last, o a unit is open, e it does not pass 4,096 bytes with the packet, m bytes then
module _ (l : Link) (i m : ℕ) where
  abbrev grown : Bool → Bool → Ruled
  grown e t = pick (not e) (closes i dropped) (pick t (closes i delivered) (record { link = link_with i true m; fate = added }))

  abbrev folded : Bool → Bool → Bool → Bool → Bool → Ruled
  folded c j o e t =
      record {
        link = pick c (link_with i o l.len) (link_with i (((not c && j) && e) && not t) m);
        fate = pick (((not c && j) && e) && t) delivered (pick ((not c && j) && e) added (pick (not c && j) dropped skipped));
      }

  begins : (c o e t : Bool) → pick c (record { link = link_with i o l.len; fate = skipped }) (grown e t) ≡ folded c true o e t
  unfolding link_with
  begins true o e t = refl
  begins false o false t = refl
  begins false o true true = refl
  begins false o true false = refl

  goes_on : (c o e t : Bool) → pick c (record { link = link_with i o l.len; fate = skipped }) (pick (not o) (closes i skipped) (grown e t)) ≡ folded c o o e t
  unfolding link_with
  goes_on true o e t = refl
  goes_on false false e t = refl
  goes_on false true false t = refl
  goes_on false true true true = refl
  goes_on false true true false = refl

pub rules : (l : Link) (i : ℕ) (f t : Bool) (n : ℕ) → ruled l i f t n ≡ record { link = link_after l i f t n; fate = fate_of l i f t n }
unfolding ruled comes_to link_after fate_of completes adds joins base_of
rules l i true t n = begins l i (0 + n) (null_of true t n) (kept l i) (leb (0 + n) 4096) t
rules l i false t n = goes_on l i (l.len + n) (null_of false t n) (kept l i) (leb (l.len + n) 4096) t
