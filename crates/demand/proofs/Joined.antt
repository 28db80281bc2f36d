-- The pieces of a unit, joined, are the unit. Assumes nothing.
use Prim.Native.Nat.{ℕ, zero, suc, ◌+◌, ◌≤◌}
use mathlib.Core.Path.{◌≡◌, refl, sym, ap, ◌∙◌}
use mathlib.Core.List.{List, [], ◌∷◌, ◌++◌, append_assoc, append-nil}
use mathlib.Core.Bool.{Bool, true, false}
use native.Mathlib.Omega.{arith}
use borrow.Author.Tests.{leb-true}
use lib.Dec.{leb}
use lib.ListN.{length, take, drop, take-append-drop}
use lib.Seq.{take_all}
use Rattle.laws.specs.Pick.{pick}
use Rattle.packet.specs.Packet.{Chunk}
use Rattle.queue.specs.Queue.{add_up, packets, waits}
use Rattle.row.specs.Content.{chunk_of, rest_of, rests, begun_after, chunks}
use Rattle.demand.specs.Condition.{pieces_of, joined}
use Rattle.demand.proofs.Drained.{drained_none}

-- units one behind the other
flat : List (List ℕ) → List ℕ
flat [] = []
flat (u ∷ us) = u ++ flat us

joined_more : (cs : List Chunk) (c : Chunk) → joined (cs ++ (c ∷ [])) ≡ joined cs ++ c.body
unfolding joined
joined_more [] c = append-nil c.body
joined_more (d ∷ cs) c = ap (λ (l : List ℕ). d.body ++ l) (joined_more cs c) ∙ sym (append_assoc d.body (joined cs) c.body)

-- a piece, and what it leaves
one_joined : (p : ℕ) (b : Bool) (us : List (List ℕ)) → (chunk_of p b us).body ++ flat (rest_of p us) ≡ flat us
unfolding chunk_of rest_of flat
one_joined p b [] = refl
one_joined p b (u ∷ us) = go (leb (length u) p) refl
  where
    go : (t : Bool) → leb (length u) p ≡ t → take p u ++ flat (pick t us (drop p u ∷ us)) ≡ u ++ flat us
    go true e = ap (λ (l : List ℕ). l ++ flat us) (take_all p u (leb-true _ _ e))
    go false e = sym (append_assoc (take p u) (drop p u) (flat us)) ∙ ap (λ (l : List ℕ). l ++ flat us) (take-append-drop p u)

-- n pieces, and what they leave
chunks_join : (p n : ℕ) (b : Bool) (us : List (List ℕ)) → joined (chunks p n b us) ++ flat (rests p n us) ≡ flat us
unfolding chunks rests joined
chunks_join p zero b us = refl
chunks_join p (suc n) b us =
    let c = chunk_of p (begun_after p n b us) (rests p n us) in
    let j = joined (chunks p n b us) in
    ap (λ (l : List ℕ). l ++ flat (rest_of p (rests p n us))) (joined_more (chunks p n b us) c)
    ∙ append_assoc j c.body (flat (rest_of p (rests p n us)))
    ∙ ap (λ (l : List ℕ). j ++ l) (one_joined p (begun_after p n b us) (rests p n us))
    ∙ chunks_join p n b us

pub pieces_join : (p : ℕ) (unit : List ℕ) → 1 ≤ p → 1 ≤ length unit → joined (pieces_of p unit) ≡ unit
unfolding flat waits add_up
pieces_join p unit hp h =
    let m = packets p (length unit) in
    let z : m + 0 ≡ m = omega arith in
    let e : rests p m (unit ∷ []) ≡ [] = ap (λ (n : ℕ). rests p n (unit ∷ [])) (sym z) ∙ drained_none p hp (unit ∷ []) (h, tt) in
    sym (append-nil (joined (pieces_of p unit)))
    ∙ ap (λ (us : List (List ℕ)). joined (pieces_of p unit) ++ flat us) (sym e)
    ∙ chunks_join p m false (unit ∷ [])
    ∙ append-nil unit
