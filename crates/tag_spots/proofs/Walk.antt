-- The walk in the words of the source: names one behind the other, and slots. Assumes nothing.
use Prim.Native.Nat.{ℕ, ◌+◌, ◌^◌, ◌<◌}
use mathlib.Core.Path.{◌≡◌, refl, sym, ap, ◌∙◌}
use mathlib.Core.List.{List}
use lib.ListN.{length}
use borrow.Author.Tests.{eq-eqb, ne_eqb}
use Rattle.laws.specs.Big.{number_at}
use Rattle.items.specs.Items.{cut_of, size_at, walked_of}
use Rattle.items.specs.declared.Walked.{Walked}
use Rattle.tag_spots.specs.Rows.{keys_of, starts_after, bits_after, starts_for, bits_for}
use Rattle.tag_spots.specs.Notes.{row_of, noted_at}
use Rattle.tag_spots.proofs.Search.{keys_length, slots_only}
use Rattle.tag_spots.proofs.Pass.{Passing, passing_first, passing_more}

abbrev pub Walking : List ℕ → List ℕ → List ℕ → List ℕ → List ℕ → List ℕ → List ℕ → ℕ → Type 0
Walking S names slots starts₀ bits₀ starts bits at = Passing S (keys_of names slots (length starts₀)) starts₀ bits₀ starts bits at

pub walking_first : (S names slots starts bits : List ℕ) → length bits ≡ length starts → Walking S names slots starts bits starts bits 0
walking_first S names slots starts bits e =
    let k = sym (keys_length names slots (length starts)) in passing_first S (keys_of names slots (length starts)) starts bits k (e ∙ k)

module _ (S names slots starts₀ bits₀ starts bits : List ℕ) (at : ℕ) (w : Walking S names slots starts₀ bits₀ starts bits at) where
  pub same_starts : length starts ≡ length starts₀
  same_starts = w.rows ∙ keys_length names slots (length starts₀)

  pub same_bits : length bits ≡ length starts
  same_bits = w.rows_too ∙ sym w.rows

  pub walking_more : (n : ℕ) → n ≡ size_at S at → (n ≡ 0 → ⊥) → (key size : ℕ) → key ≡ number_at 4 S at → size ≡ number_at 4 S (at + 4)
      → (starts' bits' : List ℕ)
      → (starts' ≡ noted_at (row_of key (keys_of names slots (length starts))) (at + 8) starts starts)
      × (bits' ≡ noted_at (row_of key (keys_of names slots (length starts))) size starts bits) × (key < 2 ^ 32)
      → Walking S names slots starts₀ bits₀ starts' bits' (at + n)
  walking_more n h some key size ke se starts' bits' e =
      let k = ap (λ (m : ℕ). row_of key (keys_of names slots m)) same_starts in
      passing_more S (keys_of names slots (length starts₀)) starts₀ bits₀ starts bits at n w h some key size (slots_only names slots (length starts₀) key e.2) ke se starts' bits'
      (e.0 ∙ ap (λ (r : ℕ). noted_at r (at + 8) starts starts) k) (e.1 ∙ ap (λ (r : ℕ). noted_at r size starts bits) k)

-- ---- `find_all`
module _ (S names slots starts bits : List ℕ) where
  pub left_starts : (length bits ≡ length starts → ⊥) → starts ≡ starts_for names slots (cut_of S).items starts bits
  unfolding starts_for
  left_starts h = rw (ne_eqb _ _ h) refl

  pub left_bits : (length bits ≡ length starts → ⊥) → bits ≡ bits_for names slots (cut_of S).items starts bits
  unfolding bits_for
  left_bits h = rw (ne_eqb _ _ h) refl

  pub found_starts : length bits ≡ length starts → (l : List ℕ) → l ≡ starts_after (keys_of names slots (length starts)) (cut_of S).items starts bits
      → l ≡ starts_for names slots (cut_of S).items starts bits
  unfolding starts_for
  found_starts h l e = rw (eq-eqb _ _ h) e

  pub found_bits : length bits ≡ length starts → (l : List ℕ) → l ≡ bits_after (keys_of names slots (length starts)) (cut_of S).items starts bits
      → l ≡ bits_for names slots (cut_of S).items starts bits
  unfolding bits_for
  found_bits h l e = rw (eq-eqb _ _ h) e

pub walked_stop : (S : List ℕ) (w : Walked) → w ≡ walked_of (cut_of S) → w.stop ≡ (cut_of S).stop
unfolding walked_of
walked_stop S w e = ap (λ (x : Walked). x.stop) e
