-- Once as many packets are sent as units take, nothing of them is left, and the unit behind them begins. Assumes nothing.
use Prim.Native.Nat.{ℕ, zero, suc, ◌+◌, ◌-◌, ◌<◌, ◌≤◌}
use mathlib.Core.Path.{◌≡◌, refl, ap, ap₂, ◌∙◌}
use mathlib.Core.List.{List, [], ◌∷◌, ◌++◌, append_assoc, map}
use mathlib.Core.Bool.{Bool, true, false, not}
use native.Mathlib.Omega.{arith}
use lib.Dec.{leb}
use lib.ListN.{length, drop}
use Rattle.laws.specs.Pick.{pick}
use Rattle.packet.specs.Packet.{Chunk}
use Rattle.queue.specs.Queue.{add_up, packets, waits}
use Rattle.queue.specs.Send.{send, AllPos}
use Rattle.queue.proofs.Sending.{pos_send, waits_send, none_waits}
use Rattle.row.specs.Content.{rest_of, begun_of, rests, begun_after, chunks}
use Rattle.demand.proofs.Chunks.{rests_add, chunks_add, rests_front, begun_front, chunks_front, rests_lengths}

none_mapped : (us : List (List ℕ)) → map length us ≡ [] → us ≡ []
none_mapped [] e = refl
none_mapped (u ∷ us) e = let z : suc (length (map length us)) ≡ 0 = ap length e in absurd (omega arith)

rest_none : (p : ℕ) (us : List (List ℕ)) → rest_of p us ≡ [] → begun_of p us ≡ false
unfolding rest_of begun_of
rest_none p [] e = refl
rest_none p (u ∷ us) e = go (leb (length u) p) e
  where
    go : (t : Bool) → pick t us (drop p u ∷ us) ≡ [] → not t ≡ false
    go true f = refl
    go false f = let z : suc (length us) ≡ 0 = ap length f in absurd (omega arith)

rest_count : (p : ℕ) (us : List (List ℕ)) → length (rest_of p us) ≤ length us
unfolding rest_of
rest_count p [] = omega arith
rest_count p (u ∷ us) = go (leb (length u) p)
  where
    go : (t : Bool) → length (pick t us (drop p u ∷ us)) ≤ suc (length us)
    go true = omega arith
    go false = omega arith

rests_count : (p n : ℕ) (us : List (List ℕ)) → length (rests p n us) ≤ length us
unfolding rests
rests_count p zero us = omega arith
rests_count p (suc n) us = omega (arith, rest_count p (rests p n us), rests_count p n us)

module _ (p : ℕ) (hp : 1 ≤ p) where
  module _ (us : List (List ℕ)) (a : AllPos (map length us)) where
    pub left_waits : (n : ℕ) → waits p (map length (rests p n us)) ≡ waits p (map length us) - n
    left_waits n = ap (waits p) (rests_lengths p n us) ∙ waits_send p hp n (map length us) a

    pub drained_some : (j : ℕ) → j < waits p (map length us) → rests p j us ≡ [] → ⊥
    unfolding waits add_up
    drained_some j h e = let z : waits p (map length (rests p j us)) ≡ 0 = ap (λ (l : List (List ℕ)). waits p (map length l)) e in omega (arith, left_waits j)

    pub drained_none : rests p (waits p (map length us)) us ≡ []
    drained_none =
        let w = waits p (map length us) in
        none_mapped (rests p w us)
        (rests_lengths p w us ∙ none_waits p hp (send p w (map length us)) (pos_send p hp w (map length us) a) (waits_send p hp w (map length us) a ∙ omega arith))

    pub drained_begun : (b : Bool) → (us ≡ [] → b ≡ false) → begun_after p (waits p (map length us)) b us ≡ false
    unfolding begun_after rests
    drained_begun b f = go (waits p (map length us)) drained_none
      where
        go : (n : ℕ) → rests p n us ≡ [] → begun_after p n b us ≡ false
        go zero e = f e
        go (suc n) e = rest_none p (rests p n us) e

  -- of what comes behind them no more is left than came
  pub drained_past : (us vs : List (List ℕ)) (n : ℕ) → AllPos (map length us) → waits p (map length us) ≤ n → length (rests p n (us ++ vs)) ≤ length vs
  drained_past us vs n a h =
      let w = waits p (map length us) in
      let z : n ≡ w + (n - w) = omega arith in
      let e : rests p w (us ++ vs) ≡ vs = rests_front p us vs w (drained_some us a) ∙ ap (λ (l : List (List ℕ)). l ++ vs) (drained_none us a) in
      let r : rests p n (us ++ vs) ≡ rests p (n - w) vs = ap (λ (k : ℕ). rests p k (us ++ vs)) z ∙ rests_add p w (n - w) (us ++ vs) ∙ ap (rests p (n - w)) e in
      omega (arith, ap length r, rests_count p (n - w) vs)

  -- the packets of units vs, then those of the unit u behind them, whatever comes then
  pub whole_behind : (vs : List (List ℕ)) (u : List ℕ) (more : List (List ℕ)) (b : Bool) (j : ℕ) → AllPos (map length vs) → 1 ≤ length u → (vs ≡ [] → b ≡ false)
      → chunks p (waits p (map length vs) + packets p (length u) + j) b (vs ++ (u ∷ more))
      ≡ chunks p (waits p (map length vs)) b vs
      ++ (chunks p (packets p (length u)) false (u ∷ [])
      ++ chunks p j (begun_after p (waits p (map length vs) + packets p (length u)) b (vs ++ (u ∷ more))) (rests p (waits p (map length vs) + packets p (length u)) (vs ++ (u ∷ more))))
  unfolding waits add_up
  whole_behind vs u more b j a h f =
      let w = waits p (map length vs) in
      let m = packets p (length u) in
      let W = vs ++ (u ∷ more) in
      let front = chunks p w b vs in
      let back = chunks p j (begun_after p (w + m) b W) (rests p (w + m) W) in
      let s = drained_some vs a in
      let r : rests p w W ≡ u ∷ more = rests_front p vs (u ∷ more) w s ∙ ap (λ (l : List (List ℕ)). l ++ (u ∷ more)) (drained_none vs a) in
      let t : begun_after p w b W ≡ false = begun_front p vs (u ∷ more) w b s ∙ drained_begun vs a b f in
      let own : chunks p m false (u ∷ more) ≡ chunks p m false (u ∷ []) = chunks_front p (u ∷ []) more m false (λ i l. drained_some (u ∷ []) (h, tt) i (omega arith)) in
      chunks_add p (w + m) j b W
      ∙ ap (λ (l : List Chunk). l ++ back)
      (chunks_add p w m b W
      ∙ ap₂ (λ (x y : List Chunk). x ++ y) (chunks_front p vs (u ∷ more) w b s) (ap₂ (λ (c : Bool) (l : List (List ℕ)). chunks p m c l) t r ∙ own))
      ∙ append_assoc front (chunks p m false (u ∷ [])) back
