-- Packets of a queue at a line that is not in step with it: the unit that is begun is skipped, and all units behind it come whole.
-- Assumes nothing.
use Prim.Native.Nat.{ℕ, zero, suc, ◌+◌, ◌-◌, ◌%◌, ◌≤◌}
use mathlib.Core.Path.{◌≡◌, refl, sym, ap, ap₂, ◌∙◌}
use mathlib.Core.List.{List, [], ◌∷◌, ◌++◌}
use mathlib.Core.Bool.{Bool, true, false}
use native.Mathlib.Omega.{arith}
use lib.Dec.{leb}
use lib.ListN.{length, take, drop, length-take}
use Rattle.laws.specs.Pick.{pick}
use Rattle.packet.specs.Packet.{Chunk, nothing}
use Rattle.row.specs.Content.{chunk_of, rest_of, begun_of, rests, begun_after, chunks}
use Rattle.receiver.specs.Link.{kept, null_of, base_of, joins, adds, link_with, link_after, completes}
use Rattle.receiver.specs.Line.{Line, idle, grown, line_after, units_by, line_through, units_through}
use Rattle.demand.specs.Bytes.{numbered}
use Rattle.demand.specs.Stream.{Fair}
use Rattle.delivery.specs.Whole.{wholes}
use Rattle.delivery.proofs.Step.{null_some, null_more}
use Rattle.delivery.proofs.Passing.{idle_linked, wholes_idle, wholes_length, gone}
use Rattle.delivery.proofs.Lists.{front}

-- ---- the first of n packets, and the others
module _ (p : ℕ) where
  pub rests_next : (n : ℕ) (us : List (List ℕ)) → rests p (suc n) us ≡ rests p n (rest_of p us)
  unfolding rests
  rests_next zero us = refl
  rests_next (suc n) us = ap (rest_of p) (rests_next n us)

  begun_next : (n : ℕ) (b : Bool) (us : List (List ℕ)) → begun_after p (suc n) b us ≡ begun_after p n (begun_of p us) (rest_of p us)
  unfolding begun_after rests
  begun_next zero b us = refl
  begun_next (suc n) b us = ap (begun_of p) (rests_next n us)

  chunks_next : (n : ℕ) (b : Bool) (us : List (List ℕ)) → chunks p (suc n) b us ≡ chunk_of p b us ∷ chunks p n (begun_of p us) (rest_of p us)
  unfolding chunks begun_after rests
  chunks_next zero b us = refl
  chunks_next (suc n) b us =
      ap₂ (λ (l : List Chunk) (c : Chunk). l ++ (c ∷ [])) (chunks_next n b us) (ap₂ (chunk_of p) (begun_next n b us) (rests_next n us))

  packets_next : (id i n : ℕ) (b : Bool) (us : List (List ℕ))
      → numbered id i (chunks p (suc n) b us) ≡ record { id = id; index = i; chunk = chunk_of p b us } ∷ numbered id ((i + 1) % 8) (chunks p n (begun_of p us) (rest_of p us))
  unfolding numbered
  packets_next id i n b us = ap (numbered id i) (chunks_next n b us)

-- ---- a unit's first packet: the line before it does not matter
first_line : (l m : Line) (i : ℕ) (t : Bool) (d : List ℕ) → null_of true t (length d) ≡ false
    → line_after l i (record { first = true; last = t; body = d }) ≡ line_after m i (record { first = true; last = t; body = d })
unfolding line_after link_after adds joins base_of grown
first_line l m i t d z = simp z

first_units : (l m : Line) (i : ℕ) (t : Bool) (d : List ℕ)
    → units_by l i (record { first = true; last = t; body = d }) ≡ units_by m i (record { first = true; last = t; body = d })
unfolding units_by completes adds joins base_of grown
first_units l m i t d = refl

real_first : (p : ℕ) (u : List ℕ) → 1 ≤ length u → (t : Bool) → leb (length u) p ≡ t → null_of true t (length (take p u)) ≡ false
real_first p u h true e = let k : length u ≤ p = borrow.Author.Tests.leb-true _ _ e in null_some true true (length (take p u)) (omega (arith, length-take p u))
real_first p u h false e = null_more true (length (take p u))

-- ---- null packets complete nothing
pub null_units : (l : Line) (i : ℕ) → units_by l i nothing ≡ []
unfolding units_by completes adds joins null_of
null_units l i = refl

none_left : (p id n : ℕ) (b : Bool) (i : ℕ) (l : Line) → units_through l (numbered id i (chunks p n b [])) ≡ []
unfolding chunks numbered units_through chunk_of rest_of begun_of
none_left p id zero b i l = refl
none_left p id (suc n) b i l =
    ap (units_through l) (packets_next p id i n b [])
    ∙ ap₂ (λ (x y : List (List ℕ)). x ++ y) (null_units l i) (none_left p id n false ((i + 1) % 8) (line_after l i nothing))

-- ---- a packet inside a unit that the line has not: skipped
skip_line : (l : Line) (i : ℕ) (t : Bool) (d : List ℕ) → kept l.link i ≡ false
    → (line_after l i (record { first = false; last = t; body = d }) ≡ record { link = link_with i false 0; bytes = [] })
    × (units_by l i (record { first = false; last = t; body = d }) ≡ [])
unfolding line_after link_after units_by completes adds joins null_of link_with
skip_line l i t d e = (simp e, simp e)

idle_kept : (i j : ℕ) → kept (link_with i false 0) j ≡ false
unfolding kept link_with
idle_kept i j = refl

-- ---- n packets from the beginning of a unit, at any line
-- the units that begin from here on; b: the first is begun
abbrev pub from_here : Bool → List (List ℕ) → List (List ℕ)
from_here b us = pick b (drop 1 us) us

module _ (p id : ℕ) where
  in_step : (n : ℕ) (us : List (List ℕ)) (i : ℕ) → Fair us → units_through idle (numbered id i (chunks p n false us)) ≡ take (length us - length (rests p n us)) us
  in_step n us i f =
      let ks = numbered id i (chunks p n false us) in
      front (units_through idle ks) (wholes (line_through idle ks) (rests p n us)) us (length (rests p n us))
      ((gone p id n us false i idle (idle_linked us i f)).same ∙ wholes_idle us) (wholes_length (line_through idle ks) (rests p n us))

  -- from any line: once a unit's first packet comes, and then all that follow, all units come whole
  pub whole_from_any : (n : ℕ) (us : List (List ℕ)) (i : ℕ) (l : Line) → Fair us
      → units_through l (numbered id i (chunks p n false us)) ≡ take (length us - length (rests p n us)) us
  unfolding chunks numbered units_through rests chunk_of
  whole_from_any zero us i l f = let z : length us - length us ≡ 0 = omega arith in sym (ap (λ (n : ℕ). take n us) z)
  whole_from_any (suc n) [] i l f = none_left p id (suc n) false i l ∙ sym (lib.Seq.take-nil {A = List ℕ} (0 - length (rests p (suc n) [])))
  whole_from_any (suc n) (u ∷ us) i l f =
      let c = chunk_of p false (u ∷ us) in
      let ks = numbered id ((i + 1) % 8) (chunks p n (begun_of p (u ∷ us)) (rest_of p (u ∷ us))) in
      let e = packets_next p id i n false (u ∷ us) in
      let t = leb (length u) p in
      ap (units_through l) e
      ∙ ap₂ (λ (x : List (List ℕ)) (m : Line). x ++ units_through m ks) (first_units l idle i t (take p u)) (first_line l idle i t (take p u) (real_first p u f.some.0 t refl))
      ∙ ap (units_through idle) (sym e)
      ∙ in_step (suc n) (u ∷ us) i f

  -- at a line that has not the unit that is begun: it is skipped, and those behind it come whole
  skipped : (n : ℕ) (v : List ℕ) (us : List (List ℕ)) (i : ℕ) (l : Line) → Fair us → kept l.link i ≡ false
      → units_through l (numbered id i (chunks p n true (v ∷ us))) ≡ take (length us - length (rests p n (v ∷ us))) us
  unfolding chunks numbered units_through rests chunk_of begun_of rest_of link_with
  skipped zero v us i l f k = let z : length us - length (v ∷ us) ≡ 0 = omega arith in sym (ap (λ (n : ℕ). take n us) z)
  skipped (suc n) v us i l f k =
      let t = leb (length v) p in
      let s = skip_line l i t (take p v) k in
      let ks = numbered id ((i + 1) % 8) (chunks p n (begun_of p (v ∷ us)) (rest_of p (v ∷ us))) in
      ap (units_through l) (packets_next p id i n true (v ∷ us))
      ∙ ap₂ (λ (x : List (List ℕ)) (m : Line). x ++ units_through m ks) s.1 s.0
      ∙ then t refl (λ w. skipped n w us ((i + 1) % 8) (record { link = link_with i false 0; bytes = [] }) f (idle_kept i ((i + 1) % 8)))
      ∙ ap (λ (r : List (List ℕ)). take (length us - length r) us) (sym (rests_next p n (v ∷ us)))
    where
      then : (t : Bool) → leb (length v) p ≡ t
          → ((w : List ℕ) → units_through (record { link = link_with i false 0; bytes = [] }) (numbered id ((i + 1) % 8) (chunks p n true (w ∷ us))) ≡ take (length us - length (rests p n (w ∷ us))) us)
          → units_through (record { link = link_with i false 0; bytes = [] }) (numbered id ((i + 1) % 8) (chunks p n (begun_of p (v ∷ us)) (rest_of p (v ∷ us)))) ≡ take (length us - length (rests p n (rest_of p (v ∷ us)))) us
      then true e ih = rw e (whole_from_any n us ((i + 1) % 8) (record { link = link_with i false 0; bytes = [] }) f)
      then false e ih = rw e (ih (drop p v))

  -- both
  pub resumed : (n : ℕ) (b : Bool) (us : List (List ℕ)) (i : ℕ) (l : Line) → Fair (from_here b us) → (b ≡ true → kept l.link i ≡ false)
      → units_through l (numbered id i (chunks p n b us)) ≡ take (length (from_here b us) - length (rests p n us)) (from_here b us)
  resumed n false us i l f k = whole_from_any n us i l f
  resumed n true [] i l f k = none_left p id n true i l ∙ sym (lib.Seq.take-nil {A = List ℕ} (0 - length (rests p n [])))
  resumed n true (v ∷ us) i l f k = skipped n v us i l f (k refl)
