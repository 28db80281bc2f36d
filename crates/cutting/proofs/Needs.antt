-- Bytes taken as many at a time as nothing is said about. Assumes nothing.
use Prim.Native.Nat.{ℕ, ◌+◌, ◌-◌, ◌≤◌, ◌<◌, min}
use mathlib.Core.Path.{◌≡◌, refl, sym, ap, ◌∙◌}
use mathlib.Core.List.{List, [], ◌∷◌, ◌++◌, append_assoc, append-nil}
use native.Mathlib.Omega.{arith}
use mathlib.Core.Logic.{◌⊎◌, inl, inr, ⊎_elim}
use mathlib.Core.Bool.{Bool, true, false}
use borrow.Author.Tests.{ltb-true, ltb-false}
use lib.Dec.{ltb}
use lib.ListN.{length, take, drop, length-append, length-take, take-append-drop}
use Rattle.cutting.specs.Cutting.{waiting, joined, by, cut_from, cut_of, all_of, end_number}
use Rattle.cutting.specs.Records.{Steady, Good, AllGood, Begun, Real}
use Rattle.cutting.specs.Sign.{Sign, More, Whole, Wrong}

pub lt_or_le : (a b : ℕ) → (a < b) ⊎ (b ≤ a)
lt_or_le a b = go (ltb a b) refl
  where
    go : (t : Bool) → ltb a b ≡ t → (a < b) ⊎ (b ≤ a)
    go true e = inl (ltb-true _ _ e)
    go false e = inr (ltb-false _ _ e)

length_take_most : (n : ℕ) (l : List ℕ) → length (take n l) ≤ n
length_take_most n l = let e = length-take n l in omega arith

record Snoc (a : List ℕ) : Type 0 where
  pub front : List ℕ
  pub last : ℕ
  pub same : a ≡ front ++ (last ∷ [])

snoc : (a : List ℕ) → 0 < length a → Snoc a
snoc [] h = absurd (omega arith)
snoc (x ∷ []) h = record { front = []; last = x; same = refl }
snoc (x ∷ (y ∷ a)) h =
    let s = snoc (y ∷ a) (omega arith) in record { front = x ∷ s.front; last = s.last; same = ap (λ (l : List ℕ). x ∷ l) s.same }

module _ (says : List ℕ → Sign) where
  -- bytes about which nothing is said, however few of them, are gone over
  pub skip : (h a b : List ℕ) → ((p q : List ℕ) → a ≡ p ++ q → says (h ++ p) ≡ More) → cut_from says h (a ++ b) ≡ cut_from says (h ++ a) b
  unfolding cut_from
  skip h [] b m = ap (λ (g : List ℕ). cut_from says g b) (sym (append-nil h))
  skip h (x ∷ a) b m =
      let e : (t : List ℕ) → (h ++ (x ∷ [])) ++ t ≡ h ++ (x ∷ t) = append_assoc h (x ∷ []) in
      let n : says (h ++ (x ∷ [])) ≡ More = m (x ∷ []) a refl in
      rw n
      (skip (h ++ (x ∷ [])) a b (λ p q k. rw (e p) (m (x ∷ p) q (ap (λ (l : List ℕ). x ∷ l) k)))
      ∙ ap (λ (g : List ℕ). cut_from says g b) (e a))

  -- up to the byte before the last nothing is said: what is said with it decides
  last_decides : (h p : List ℕ) (x : ℕ) (a b : List ℕ) → a ≡ p ++ (x ∷ []) → ((s t : List ℕ) → p ≡ s ++ t → says (h ++ s) ≡ More)
      → cut_from says h (a ++ b) ≡ by (says (h ++ a)) (h ++ a) (cut_from says (h ++ a) b) (cut_from says [] b)
  unfolding cut_from
  last_decides h p x a b e m =
      rw e
      (ap (cut_from says h) (append_assoc p (x ∷ []) b)
      ∙ skip h p (x ∷ b) m
      ∙ ap (λ (g : List ℕ). by (says g) g (cut_from says g b) (cut_from says [] b)) (append_assoc h p (x ∷ [])))

  -- a record that is sign whole at its last byte, and nothing before, is cut off
  pub good_cut : (r b : List ℕ) → Good says r → cut_from says [] (r ++ b) ≡ joined (r ∷ []) (cut_from says [] b)
  good_cut r b g =
      let s : Snoc r = snoc r g.some in
      last_decides [] s.front s.last r b s.same
      (λ p q e. g.before p (q ++ (s.last ∷ [])) (simp length-append (omega arith)) (s.same ∙ ap (λ (l : List ℕ). l ++ (s.last ∷ [])) e ∙ append_assoc p q (s.last ∷ [])))
      ∙ rw g.ends refl

  -- and so are many
  pub goods_cut : (rs : List (List ℕ)) (b : List ℕ) → AllGood says rs → cut_from says [] (all_of rs ++ b) ≡ joined rs (cut_from says [] b)
  unfolding all_of
  goods_cut [] b g = refl
  goods_cut (r ∷ rs) b g =
      ap (cut_from says []) (append_assoc r (all_of rs) b)
      ∙ good_cut r (all_of rs ++ b) g.0
      ∙ ap (joined (r ∷ [])) (goods_cut rs b g.1)

  pub goods_whole : (rs : List (List ℕ)) → AllGood says rs → cut_of says (all_of rs) ≡ record { records = rs; rest = []; sign = More }
  unfolding cut_of cut_from
  goods_whole rs g =
      ap (cut_from says []) (sym (append-nil (all_of rs)))
      ∙ goods_cut rs [] g
      ∙ ap (λ (l : List (List ℕ)). record { records = l; rest = []; sign = More }) (append-nil rs)

-- ---- the other way: what is cut off is good

module _ (says : List ℕ → Sign) where
  -- the front of a row with one more byte is all of it, or a front of the row
  fronts : (P : List ℕ → Type 0) (h : List ℕ) (x : ℕ) (p q : List ℕ) → h ++ (x ∷ []) ≡ p ++ q → P (h ++ (x ∷ []))
      → ((s t : List ℕ) → h ≡ s ++ t → P s) → P p
  fronts P [] x [] q e w m = m [] [] refl
  fronts P [] x (y ∷ []) q e w m = let i : x ≡ y = cc in rw (sym i) w
  fronts P [] x (y ∷ (z ∷ p)) q e w m = let k = ap length e in absurd (omega arith)
  fronts P (y ∷ h) x [] q e w m = m [] (y ∷ h) refl
  fronts P (y ∷ h) x (z ∷ p) q e w m =
      let i : y ≡ z = cc in
      let j : h ++ (x ∷ []) ≡ p ++ q = cc in
      rw (sym i) (fronts (λ (l : List ℕ). P (y ∷ l)) h x p q j w (λ s t k. m (y ∷ s) t (ap (λ (l : List ℕ). y ∷ l) k)))

  begun_more : (h : List ℕ) (x : ℕ) → Begun says h → says (h ++ (x ∷ [])) ≡ More → Begun says (h ++ (x ∷ []))
  begun_more h x b m p q e = fronts (λ (l : List ℕ). says l ≡ More) h x p q e m b

  begun_none : says [] ≡ More → Begun says []
  begun_none e [] q k = e
  begun_none e (x ∷ p) q k = let n = ap length k in absurd (omega arith)

  made_good : (h : List ℕ) (x : ℕ) → Begun says h → says (h ++ (x ∷ [])) ≡ Whole → Good says (h ++ (x ∷ []))
  made_good h x b w =
      let n : length (h ++ (x ∷ [])) ≡ length h + 1 = length-append h (x ∷ []) in
      record {
        some = omega arith;
        ends = w;
        before = λ p q l e.
            let k : length (h ++ (x ∷ [])) ≡ length p + length q = ap length e ∙ length-append p q in
            fronts (λ (l : List ℕ). length l < length (h ++ (x ∷ [])) → says l ≡ More) h x p q e (λ z. absurd (omega arith)) (λ s t k z. b s t k) (omega arith);
      }

  pub records_good : says [] ≡ More → (h s : List ℕ) → Begun says h → AllGood says (cut_from says h s).records
  unfolding cut_from
  records_good z h [] b = tt
  records_good z h (x ∷ s) b = go (says g) refl (λ e. records_good z g s (begun_more h x b e)) (records_good z [] s (begun_none z))
    where
      g : List ℕ
      g = h ++ (x ∷ [])

      go : (t : Sign) → says g ≡ t → (says g ≡ More → AllGood says (cut_from says g s).records) → AllGood says (cut_from says [] s).records
          → AllGood says (by t g (cut_from says g s) (cut_from says [] s)).records
      go More e on next = on e
      go Whole e on next = (made_good h x b e, next)
      go (Wrong n) e on next = tt

  -- and what waits is a record begun
  pub rest_begun : says [] ≡ More → (h s : List ℕ) → Begun says h → (cut_from says h s).sign ≡ More → Begun says (cut_from says h s).rest
  unfolding cut_from
  rest_begun z h [] b e = b
  rest_begun z h (x ∷ s) b e = go (says g) refl e (λ i. rest_begun z g s (begun_more h x b i)) (rest_begun z [] s (begun_none z))
    where
      g : List ℕ
      g = h ++ (x ∷ [])

      go : (t : Sign) → says g ≡ t → (by t g (cut_from says g s) (cut_from says [] s)).sign ≡ More
          → (says g ≡ More → (cut_from says g s).sign ≡ More → Begun says (cut_from says g s).rest)
          → ((cut_from says [] s).sign ≡ More → Begun says (cut_from says [] s).rest)
          → Begun says (by t g (cut_from says g s) (cut_from says [] s)).rest
      go More i j on next = on i j
      go Whole i j on next = next j
      go (Wrong n) i j on next = let o : ◌≡◌ {A = ℕ} 0 1 = cc in absurd (omega arith)

  -- no byte is lost
  pub cut_bytes : (h s : List ℕ) → (cut_from says h s).sign ≡ More → h ++ s ≡ all_of (cut_from says h s).records ++ (cut_from says h s).rest
  unfolding cut_from all_of
  cut_bytes h [] e = append-nil h
  cut_bytes h (x ∷ s) e = sym (append_assoc h (x ∷ []) s) ∙ go (says g) e (cut_bytes g s) (cut_bytes [] s)
    where
      g : List ℕ
      g = h ++ (x ∷ [])

      go : (t : Sign) → (by t g (cut_from says g s) (cut_from says [] s)).sign ≡ More
          → ((cut_from says g s).sign ≡ More → g ++ s ≡ all_of (cut_from says g s).records ++ (cut_from says g s).rest)
          → ((cut_from says [] s).sign ≡ More → s ≡ all_of (cut_from says [] s).records ++ (cut_from says [] s).rest)
          → g ++ s ≡ all_of (by t g (cut_from says g s) (cut_from says [] s)).records ++ (by t g (cut_from says g s) (cut_from says [] s)).rest
      go More j on next = on j
      go Whole j on next = ap (λ (l : List ℕ). g ++ l) (next j) ∙ sym (append_assoc g (all_of (cut_from says [] s).records) (cut_from says [] s).rest)
      go (Wrong n) j on next = let o : ◌≡◌ {A = ℕ} 0 1 = cc in absurd (omega arith)

  -- a file all of whose bytes are records is these records, and they are good
  pub accepted : says [] ≡ More → (file : List ℕ) → (cut_of says file).sign ≡ More → (cut_of says file).rest ≡ []
      → (file ≡ all_of (cut_of says file).records) × AllGood says (cut_of says file).records
  unfolding cut_of
  accepted z file e r = (
    cut_bytes [] file e ∙ ap (λ (l : List ℕ). all_of (cut_from says [] file).records ++ l) r ∙ append-nil (all_of (cut_from says [] file).records),
    records_good z [] file (begun_none z),
  )

module _ (says : List ℕ → Sign) (need : List ℕ → ℕ) (steady : Steady says need) where
  below : (h a : List ℕ) → says h ≡ More → length (h ++ a) < need h → (p q : List ℕ) → a ≡ p ++ q → says (h ++ p) ≡ More
  below h a m l p q e =
      let k : length a ≡ length p + length q = ap length e ∙ length-append p q in
      let i : length (h ++ a) ≡ length h + length a = length-append h a in
      let j : length (h ++ p) ≡ length h + length p = length-append h p in
      steady.quiet h p m (omega arith)

  -- a block that does not reach the need is put behind what is held
  pub held : (h a b : List ℕ) → says h ≡ More → length (h ++ a) < need h → cut_from says h (a ++ b) ≡ cut_from says (h ++ a) b
  held h a b m l = skip says h a b (below h a m l)

  pub held_all : (h a : List ℕ) → says h ≡ More → length (h ++ a) < need h → cut_from says h a ≡ waiting (h ++ a)
  unfolding cut_from
  held_all h a m l = ap (cut_from says h) (sym (append-nil a)) ∙ held h a [] m l

  -- one that reaches it is judged there, and only there
  pub reached : (h a b : List ℕ) → says h ≡ More → length (h ++ a) ≡ need h
      → cut_from says h (a ++ b) ≡ by (says (h ++ a)) (h ++ a) (cut_from says (h ++ a) b) (cut_from says [] b)
  reached h a b m l =
      let k : length (h ++ a) ≡ length h + length a = length-append h a in
      let n : length h < need h = steady.begun h m in
      let s : Snoc a = snoc a (omega arith) in
      let j : length (h ++ s.front) ≡ length h + length s.front = length-append h s.front in
      let i : length a ≡ length s.front + 1 = ap length s.same ∙ length-append s.front (s.last ∷ []) in
      last_decides says h s.front s.last a b s.same (below h s.front m (omega arith))

-- the call that is made again and again: of a block b as many bytes as are missing to the need, judged together. The rest comes again
module _ (says : List ℕ → Sign) (need : List ℕ → ℕ) (steady : Steady says need) where
  abbrev pub taken : List ℕ → List ℕ → List ℕ
  taken h b = take (need h - length h) b

  abbrev pub left : List ℕ → List ℕ → List ℕ
  left h b = drop (need h - length h) b

  pub step_law : (h b : List ℕ) → says h ≡ More
      → cut_from says h b ≡ by (says (h ++ taken h b)) (h ++ taken h b) (cut_from says (h ++ taken h b) (left h b)) (cut_from says [] (left h b))
  step_law h b m =
      let t = taken h b in
      let n : length h < need h = steady.begun h m in
      let e : length (h ++ t) ≡ length h + length t = length-append h t in
      let k : length t ≤ need h - length h = length_take_most (need h - length h) b in
      ap (cut_from says h) (sym (take-append-drop (need h - length h) b))
      ∙ ⊎_elim
      (λ l. held says need steady h t (left h b) m l
      ∙ ap (λ (x : Sign). by x (h ++ t) (cut_from says (h ++ t) (left h b)) (cut_from says [] (left h b))) (sym (steady.quiet h t m l)))
      (λ l. reached says need steady h t (left h b) m (omega arith))
      (lt_or_le (length (h ++ t)) (need h))

  -- the same of the bytes taken alone
  pub step_taken : (h b : List ℕ) → says h ≡ More
      → cut_from says h (taken h b) ≡ by (says (h ++ taken h b)) (h ++ taken h b) (waiting (h ++ taken h b)) (waiting [])
  unfolding cut_from
  step_taken h b m =
      let t = taken h b in
      let n : length h < need h = steady.begun h m in
      let e : length (h ++ t) ≡ length h + length t = length-append h t in
      let k : length t ≤ need h - length h = length_take_most (need h - length h) b in
      ap (cut_from says h) (sym (append-nil t))
      ∙ ⊎_elim
      (λ l. held says need steady h t [] m l ∙ ap (λ (x : Sign). by x (h ++ t) (waiting (h ++ t)) (waiting [])) (sym (steady.quiet h t m l)))
      (λ l. reached says need steady h t [] m (omega arith))
      (lt_or_le (length (h ++ t)) (need h))

  -- a call on a block that has a byte takes one
  pub takes_one : (h b : List ℕ) → says h ≡ More → 0 < length b → 0 < length (taken h b)
  takes_one h b m l =
      let n : length h < need h = steady.begun h m in
      let e : length (taken h b) ≡ min (need h - length h) (length b) = length-take (need h - length h) b in
      omega arith

-- number 0: all bytes were taken, and no record is begun
pub sign_real : (says : List ℕ → Sign) → Real says → (h s : List ℕ) (n : ℕ) → (cut_from says h s).sign ≡ Wrong n → 0 < n
unfolding cut_from
sign_real says z h [] n e = let o : ◌≡◌ {A = ℕ} 0 1 = cc in absurd (omega arith)
sign_real says z h (x ∷ s) n e = go (says (h ++ (x ∷ []))) refl e (sign_real says z (h ++ (x ∷ [])) s n) (sign_real says z [] s n)
  where
    g : List ℕ
    g = h ++ (x ∷ [])

    go : (t : Sign) → says (h ++ (x ∷ [])) ≡ t → (by t g (cut_from says g s) (cut_from says [] s)).sign ≡ Wrong n
        → ((cut_from says g s).sign ≡ Wrong n → 0 < n) → ((cut_from says [] s).sign ≡ Wrong n → 0 < n) → 0 < n
    go More i j on next = on j
    go Whole i j on next = next j
    go (Wrong m) i j on next = let k : m ≡ n = cc in rw (sym k) (z (h ++ (x ∷ [])) m i)

pub ended : (says : List ℕ → Sign) → Real says → (s : List ℕ) → end_number (cut_of says s).sign (cut_of says s).rest ≡ 0
    → ((cut_of says s).sign ≡ More) × ((cut_of says s).rest ≡ [])
unfolding cut_of
ended says z s e = go (cut_from says [] s).sign (cut_from says [] s).rest e (sign_real says z [] s)
  where
    go : (t : Sign) (r : List ℕ) → end_number t r ≡ 0 → ((n : ℕ) → t ≡ Wrong n → 0 < n) → (t ≡ More) × (r ≡ [])
    go More [] e w = (refl, refl)
    go More (x ∷ r) e w = absurd (omega arith)
    go Whole r e w = absurd (omega arith)
    go (Wrong n) r e w = let k = w n refl in absurd (omega arith)
