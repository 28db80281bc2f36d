-- A receiver that missed packets, in whatever state: once all packets of a unit come, with indexes that follow one another, the unit is
-- delivered whole. Assumes nothing.
use Prim.Native.Nat.{ℕ, zero, suc, ◌+◌, ◌-◌, ◌≤◌}
use mathlib.Core.Path.{◌≡◌, refl, sym, ap, ◌∙◌, subst}
use mathlib.Core.List.{List, [], ◌∷◌}
use mathlib.Core.Bool.{Bool, true, false, ◌&&◌, ◌||◌, true≢false}
use native.Mathlib.Omega.{arith}
use borrow.Author.Tests.{ltb-false}
use lib.Dec.{ltb}
use lib.ListN.{length, take, get_or-eq_default}
use Rattle.queue.specs.Queue.{add_up, packets, waits}
use Rattle.row.specs.Content.{chunks, rests}
use Rattle.receiver.specs.declared.Link.{Link}
use Rattle.receiver.specs.Link.{broken_link, no_link}
use Rattle.receiver.specs.Receiver.{link_of, broken}
use Rattle.receiver.specs.Line.{units_through}
use Rattle.delivery.specs.Delivered.{Ear, line_at, delivered_of}
use Rattle.demand.specs.Bytes.{of_id, numbered}
use Rattle.demand.specs.Stream.{Fair}
use Rattle.demand.specs.Condition.{pieces_of}
use Rattle.demand.proofs.Drained.{drained_none}
use Rattle.delivery.specs.Delivery.{Rejoined}
use Rattle.delivery.proofs.Hear.{LinkOk, EarOk}
use Rattle.delivery.proofs.Lines.{heard}
use Rattle.delivery.proofs.Resumed.{whole_from_any}

-- ---- a receiver that is not refused with 17
or_l : (x y : Bool) → x || y ≡ false → x ≡ false
or_l true y e = e
or_l false y e = refl

or_r : (x y : Bool) → x || y ≡ false → y ≡ false
or_r true y e = absurd (true≢false e)
or_r false y e = e

link_ok : (l : Link) → broken_link l ≡ false → LinkOk l
unfolding broken_link
link_ok l e =
    record {
      index = ltb-false 7 l.index (or_l (ltb 7 l.index) (l.begun && ltb 4096 l.len) e);
      fits = λ b. ltb-false 4096 l.len (sym (ap (λ (x : Bool). x && ltb 4096 l.len) b) ∙ or_r (ltb 7 l.index) (l.begun && ltb 4096 l.len) e);
    }

none_ok : LinkOk no_link
none_ok = record { index = omega arith; fits = λ e. omega arith }

ear_ok : (e : Ear) → length e.receiver.link ≡ 4 → broken e.receiver ≡ false → length e.buffer ≡ 16384 → EarOk e
unfolding broken
ear_ok e four fine size = record { four = four; links = links; size = size }
  where
    k : ℕ → Bool
    k j = broken_link (link_of e.receiver j)

    links : (j : ℕ) → LinkOk (link_of e.receiver j)
    links zero = link_ok _ (or_l (k 0) (k 1) (or_l (k 0 || k 1) (k 2) (or_l ((k 0 || k 1) || k 2) (k 3) fine)))
    links (suc zero) = link_ok _ (or_r (k 0) (k 1) (or_l (k 0 || k 1) (k 2) (or_l ((k 0 || k 1) || k 2) (k 3) fine)))
    links (suc (suc zero)) = link_ok _ (or_r (k 0 || k 1) (k 2) (or_l ((k 0 || k 1) || k 2) (k 3) fine))
    links (suc (suc (suc zero))) = link_ok _ (or_r ((k 0 || k 1) || k 2) (k 3) fine)
    links (suc (suc (suc (suc j)))) = subst LinkOk (sym (get_or-eq_default e.receiver.link no_link {n = suc (suc (suc (suc j)))} (omega arith))) none_ok

-- ---- units one behind the other, from the first packet of the first on
module _ (p id : ℕ) (e : Ear) (four : length e.receiver.link ≡ 4) (fine : broken e.receiver ≡ false) (size : length e.buffer ≡ 16384) where
  units_from_any : (ss : List (List ℕ)) (i n : ℕ) (us : List (List ℕ)) → Fair us → of_id p id ss ≡ numbered id i (chunks p n false us)
      → delivered_of p id e ss ≡ take (length us - length (rests p n us)) us
  units_from_any ss i n us f q =
      (heard p id e ss (ear_ok e four fine size)).units ∙ ap (units_through (line_at e id)) q ∙ whole_from_any p id n us i (line_at e id) f

  -- all packets of one unit
  unit_from_any : (ss : List (List ℕ)) (i : ℕ) (u : List ℕ) → 1 ≤ p → 1 ≤ length u → length u ≤ 4096 → of_id p id ss ≡ numbered id i (pieces_of p u)
      → delivered_of p id e ss ≡ u ∷ []
  unfolding waits add_up
  unit_from_any ss i u hp lo hi q =
      let n = packets p (length u) in
      let z : n + 0 ≡ n = omega arith in
      let r : rests p n (u ∷ []) ≡ [] = ap (λ (k : ℕ). rests p k (u ∷ [])) (sym z) ∙ drained_none p hp (u ∷ []) (lo, tt) in
      units_from_any ss i n (u ∷ []) (record { some = (lo, tt); fit = (hi, tt) }) q ∙ ap (λ (us : List (List ℕ)). take (1 - length us) (u ∷ [])) r

  -- a receiver that is not refused with 17
  pub rejoined : Rejoined p id e
  rejoined = record { units = units_from_any; one = unit_from_any }
