-- The limits of the blocks make no difference. Assumes nothing.
use Prim.Native.Nat.{ℕ}
use mathlib.Core.Path.{◌≡◌, refl, sym, ap, ◌∙◌}
use mathlib.Core.List.{List, [], ◌∷◌, ◌++◌, append_assoc, append-nil}
use Rattle.cutting.specs.Cutting.{Cut, waiting, joined, by, cut_from, cut_of, unless, feed, feed_all, all_of}
use Rattle.cutting.specs.Sign.{Sign, More, Whole, Wrong}

module _ (says : List ℕ → Sign) where
  -- what a block adds behind records that stand there already
  joined_feed : (rs : List (List ℕ)) (c : Cut) (b : List ℕ) → feed says (joined rs c) b ≡ joined rs (feed says c b)
  unfolding feed
  joined_feed rs c b = go c.sign
    where
      n : Cut
      n = cut_from says c.rest b

      go : (t : Sign) → unless t (joined (rs ++ c.records) n) (record { records = rs ++ c.records; rest = c.rest; sign = t })
          ≡ joined rs (unless t (joined c.records n) (record { records = c.records; rest = c.rest; sign = t }))
      go More = ap (λ (l : List (List ℕ)). record { records = l; rest = n.rest; sign = n.sign }) (append_assoc rs c.records n.records)
      go Whole = refl
      go (Wrong k) = refl

  pub cut_append : (h a b : List ℕ) → cut_from says h (a ++ b) ≡ feed says (cut_from says h a) b
  unfolding cut_from feed
  cut_append h [] b = refl
  cut_append h (x ∷ a) b = go (says g) (cut_append g a b) (cut_append [] a b)
    where
      g : List ℕ
      g = h ++ (x ∷ [])

      go : (t : Sign) → cut_from says g (a ++ b) ≡ feed says (cut_from says g a) b → cut_from says [] (a ++ b) ≡ feed says (cut_from says [] a) b
          → by t g (cut_from says g (a ++ b)) (cut_from says [] (a ++ b)) ≡ feed says (by t g (cut_from says g a) (cut_from says [] a)) b
      go More p q = p
      go Whole p q = ap (joined (g ∷ [])) q ∙ sym (joined_feed (g ∷ []) (cut_from says [] a) b)
      go (Wrong k) p q = refl

  -- two blocks are one
  pub feed_feed : (c : Cut) (a b : List ℕ) → feed says (feed says c a) b ≡ feed says c (a ++ b)
  unfolding feed
  feed_feed c a b = go c.sign
    where
      go : (t : Sign) → let d : Cut = record { records = c.records; rest = c.rest; sign = t } in feed says (feed says d a) b ≡ feed says d (a ++ b)
      go More = joined_feed c.records (cut_from says c.rest a) b ∙ ap (joined c.records) (sym (cut_append c.rest a b))
      go Whole = refl
      go (Wrong k) = refl

  pub feed_none : (c : Cut) → feed says c [] ≡ c
  unfolding feed cut_from
  feed_none c = go c.sign
    where
      go : (t : Sign) → let d : Cut = record { records = c.records; rest = c.rest; sign = t } in feed says d [] ≡ d
      go More = ap (λ (l : List (List ℕ)). record { records = l; rest = c.rest; sign = More }) (append-nil c.records)
      go Whole = refl
      go (Wrong k) = refl

  -- any blocks are one block, the bytes of all of them
  pub feed_all_law : (c : Cut) (bs : List (List ℕ)) → feed_all says c bs ≡ feed says c (all_of bs)
  unfolding feed_all all_of
  feed_all_law c [] = sym (feed_none c)
  feed_all_law c (b ∷ bs) = feed_all_law (feed says c b) bs ∙ feed_feed c b (all_of bs)

  -- so two cuttings of a file into blocks end the same, which is how the whole file is cut
  pub whole_file : (bs : List (List ℕ)) → feed_all says (waiting []) bs ≡ cut_of says (all_of bs)
  unfolding cut_of feed
  whole_file bs = feed_all_law (waiting []) bs

  pub same_file : (bs ds : List (List ℕ)) → all_of bs ≡ all_of ds → feed_all says (waiting []) bs ≡ feed_all says (waiting []) ds
  same_file bs ds e = whole_file bs ∙ ap (cut_of says) e ∙ sym (whole_file ds)
