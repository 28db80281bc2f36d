-- Pieces of units one behind the other: what n packets say, and what they leave, before and behind others. Assumes nothing.
use Prim.Native.Nat.{ℕ, zero, suc, ◌+◌, ◌-◌, ◌<◌}
use mathlib.Core.Path.{◌≡◌, refl, sym, ap, ap₂, ◌∙◌}
use mathlib.Core.List.{List, [], ◌∷◌, ◌++◌, append_assoc, append-nil, map}
use mathlib.Core.Bool.{Bool, true, false}
use native.Mathlib.Omega.{arith}
use lib.Dec.{leb}
use lib.ListN.{length, drop, length-append, length-drop}
use Rattle.laws.specs.Pick.{pick}
use Rattle.packet.specs.Packet.{Chunk}
use Rattle.queue.specs.Send.{one, send}
use Rattle.row.specs.Content.{chunk_of, rest_of, begun_of, rests, begun_after, chunks}

pub chunks_length : (p n : ℕ) (b : Bool) (us : List (List ℕ)) → length (chunks p n b us) ≡ n
unfolding chunks
chunks_length p zero b us = refl
chunks_length p (suc n) b us = length-append (chunks p n b us) (chunk_of p (begun_after p n b us) (rests p n us) ∷ []) ∙ omega (arith, chunks_length p n b us)

module _ (p : ℕ) where
  pub rests_add : (n m : ℕ) (us : List (List ℕ)) → rests p (n + m) us ≡ rests p m (rests p n us)
  unfolding rests
  rests_add n zero us = let z : n + 0 ≡ n = omega arith in ap (λ (k : ℕ). rests p k us) z
  rests_add n (suc m) us = let z : n + suc m ≡ suc (n + m) = omega arith in ap (λ (k : ℕ). rests p k us) z ∙ ap (rest_of p) (rests_add n m us)

  pub begun_add : (n m : ℕ) (b : Bool) (us : List (List ℕ)) → begun_after p (n + m) b us ≡ begun_after p m (begun_after p n b us) (rests p n us)
  unfolding begun_after
  begun_add n zero b us = let z : n + 0 ≡ n = omega arith in ap (λ (k : ℕ). begun_after p k b us) z
  begun_add n (suc m) b us = let z : n + suc m ≡ suc (n + m) = omega arith in ap (λ (k : ℕ). begun_after p k b us) z ∙ ap (begun_of p) (rests_add n m us)

  pub chunks_add : (n m : ℕ) (b : Bool) (us : List (List ℕ)) → chunks p (n + m) b us ≡ chunks p n b us ++ chunks p m (begun_after p n b us) (rests p n us)
  unfolding chunks
  chunks_add n zero b us = let z : n + 0 ≡ n = omega arith in ap (λ (k : ℕ). chunks p k b us) z ∙ sym (append-nil (chunks p n b us))
  chunks_add n (suc m) b us =
      let z : n + suc m ≡ suc (n + m) = omega arith in
      let c = chunk_of p (begun_after p m (begun_after p n b us) (rests p n us)) (rests p m (rests p n us)) in
      ap (λ (k : ℕ). chunks p k b us) z
      ∙ ap₂ (λ (a : List Chunk) (d : Chunk). a ++ (d ∷ [])) (chunks_add n m b us) (ap₂ (chunk_of p) (begun_add n m b us) (rests_add n m us))
      ∙ append_assoc (chunks p n b us) (chunks p m (begun_after p n b us) (rests p n us)) (c ∷ [])

  pub rest_append : (us vs : List (List ℕ)) → (us ≡ [] → ⊥) → rest_of p (us ++ vs) ≡ rest_of p us ++ vs
  unfolding rest_of
  rest_append [] vs h = absurd (h refl)
  rest_append (u ∷ us) vs h = go (leb (length u) p)
    where
      go : (b : Bool) → pick b (us ++ vs) (drop p u ∷ (us ++ vs)) ≡ pick b us (drop p u ∷ us) ++ vs
      go true = refl
      go false = refl

  pub begun_append : (us vs : List (List ℕ)) → (us ≡ [] → ⊥) → begun_of p (us ++ vs) ≡ begun_of p us
  unfolding begun_of
  begun_append [] vs h = absurd (h refl)
  begun_append (u ∷ us) vs h = refl

  pub chunk_append : (b : Bool) (us vs : List (List ℕ)) → (us ≡ [] → ⊥) → chunk_of p b (us ++ vs) ≡ chunk_of p b us
  unfolding chunk_of
  chunk_append b [] vs h = absurd (h refl)
  chunk_append b (u ∷ us) vs h = refl

  -- what comes behind is not touched as long as something is left in front of it
  module _ (us vs : List (List ℕ)) where
    pub rests_front : (n : ℕ) → ((j : ℕ) → j < n → rests p j us ≡ [] → ⊥) → rests p n (us ++ vs) ≡ rests p n us ++ vs
    unfolding rests
    rests_front zero h = refl
    rests_front (suc n) h = ap (rest_of p) (rests_front n (λ j l. h j (omega arith))) ∙ rest_append (rests p n us) vs (h n (omega arith))

    pub begun_front : (n : ℕ) (b : Bool) → ((j : ℕ) → j < n → rests p j us ≡ [] → ⊥) → begun_after p n b (us ++ vs) ≡ begun_after p n b us
    unfolding begun_after
    begun_front zero b h = refl
    begun_front (suc n) b h = ap (begun_of p) (rests_front n (λ j l. h j (omega arith))) ∙ begun_append (rests p n us) vs (h n (omega arith))

    pub chunks_front : (n : ℕ) (b : Bool) → ((j : ℕ) → j < n → rests p j us ≡ [] → ⊥) → chunks p n b (us ++ vs) ≡ chunks p n b us
    unfolding chunks
    chunks_front zero b h = refl
    chunks_front (suc n) b h =
        ap₂ (λ (a : List Chunk) (d : Chunk). a ++ (d ∷ [])) (chunks_front n b (λ j l. h j (omega arith)))
        (ap₂ (chunk_of p) (begun_front n b (λ j l. h j (omega arith))) (rests_front n (λ j l. h j (omega arith)))
        ∙ chunk_append (begun_after p n b us) (rests p n us) vs (h n (omega arith)))

    -- a frame's pieces, then those of the frames after it
    pub chunks_then : (n m : ℕ) (b : Bool) → ((j : ℕ) → j < n → rests p j us ≡ [] → ⊥)
        → chunks p n b us ++ chunks p m (begun_after p n b us) (rests p n us ++ vs) ≡ chunks p (n + m) b (us ++ vs)
    chunks_then n m b h =
        sym
        (chunks_add n m b (us ++ vs)
        ∙ ap₂ (λ (a c : List Chunk). a ++ c) (chunks_front n b h) (ap₂ (λ (t : Bool) (l : List (List ℕ)). chunks p m t l) (begun_front n b h) (rests_front n h)))

-- ---- the lengths of what is left
rest_lengths : (p : ℕ) (us : List (List ℕ)) → map length (rest_of p us) ≡ one p (map length us)
unfolding rest_of one
rest_lengths p [] = refl
rest_lengths p (u ∷ us) = go (leb (length u) p)
  where
    go : (b : Bool) → map length (pick b us (drop p u ∷ us)) ≡ pick b (map length us) ((length u - p) ∷ map length us)
    go true = refl
    go false = ap (λ (n : ℕ). n ∷ map length us) (length-drop p u)

pub rests_lengths : (p n : ℕ) (us : List (List ℕ)) → map length (rests p n us) ≡ send p n (map length us)
unfolding rests send
rests_lengths p zero us = refl
rests_lengths p (suc n) us = rest_lengths p (rests p n us) ∙ ap (one p) (rests_lengths p n us)
