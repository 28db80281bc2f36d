-- A ring read and written from any place. Assumes nothing.
use Prim.Native.Nat.{ℕ, ◌+◌, ◌-◌, ◌%◌, ◌≤◌, ◌<◌}
use mathlib.Core.Path.{◌≡◌, refl, sym, ap, ap₂, ◌∙◌}
use mathlib.Core.List.{List, ◌++◌, append-nil, append_assoc}
use mathlib.Core.Bool.{Bool, true, false}
use native.Mathlib.Omega.{arith}
use borrow.Author.Tests.{lt-ltb, le-ltb, ltb-true, ltb-false, leb-true, leb-false}
use lib.Dec.{ltb, leb}
use lib.ListN.{length, get_or, take, drop, length-append, length-take, length-drop, take-append-drop, drop_of_length-le, get_or-append}
use lib.Seq.{take_all, take-take, take-add, take_at, drop_at, drop-drop, take-append-le, drop-append-le, take-append-add, drop-append-add, length-take-le, get_or-append-add, get_or-take, get_or-drop}
use Rattle.laws.specs.Pick.{pick}
use Rattle.laws.specs.Written.{written}
use Rattle.laws.proofs.Written.{written_none, written_length, written_more}
use Rattle.ring.specs.Ring.{turned, around, ahead}

pub turned_length : (s : ℕ) (l : List ℕ) → length (turned s l) ≡ length l
unfolding turned
turned_length s l = length-append (drop s l) (take s l) ∙ omega (arith, length-drop s l, length-take s l)

-- from a place behind the end: as from the front
pub turned_within : (s : ℕ) (l : List ℕ) → turned (pick (ltb (length l) s) 0 s) l ≡ turned s l
unfolding turned
turned_within s l = go (ltb (length l) s) refl
  where
    go : (b : Bool) → ltb (length l) s ≡ b → turned (pick b 0 s) l ≡ turned s l
    go true f =
        let h : length l < s = ltb-true _ _ f in
        append-nil l ∙ sym (ap₂ (λ (a b : List ℕ). a ++ b) (drop_of_length-le l {i = s} (omega arith)) (take_all s l (omega arith)))
    go false f = refl

-- two pieces change places
turned_join : (t d : List ℕ) (s : ℕ) → length t ≡ s → turned s (t ++ d) ≡ d ++ t
unfolding turned
turned_join t d s e = ap₂ (λ (a b : List ℕ). a ++ b) (drop_at t d s e) (take_at t d s e)

-- ---- read
take_drop : (m n : ℕ) (s : List ℕ) → n ≤ length s → take m (drop n s) ≡ drop n (take (n + m) s)
take_drop m n s h = sym (ap (drop n) (take-add n m s) ∙ drop_at (take n s) (take m (drop n s)) n (length-take-le n s h))

-- ---- places
-- before the end, and behind it
pub ahead_before : (size s a : ℕ) → s + a < size → ahead size s a ≡ s + a
unfolding ahead
ahead_before size s a h = ap (λ (b : Bool). pick b (s + a) (s + a - size)) (lt-ltb (s + a) size h)

pub ahead_behind : (size s a : ℕ) → size ≤ s + a → ahead size s a ≡ s + a - size
unfolding ahead
ahead_behind size s a h = ap (λ (b : Bool). pick b (s + a) (s + a - size)) (le-ltb (s + a) size h)

-- in a queue's part of the store it is the sum modulo 4,096
pub ahead_modulo : (s a : ℕ) → s < 4096 → a ≤ 4096 → ahead 4096 s a ≡ (s + a) % 4096
ahead_modulo s a hs ha = go (ltb (s + a) 4096) refl
  where
    go : (b : Bool) → ltb (s + a) 4096 ≡ b → ahead 4096 s a ≡ (s + a) % 4096
    go true f = let k : s + a < 4096 = ltb-true _ _ f in ahead_before 4096 s a k ∙ omega arith
    go false f = let k : 4096 ≤ s + a = ltb-false _ _ f in ahead_behind 4096 s a k ∙ omega arith

-- ---- read from a places further on
pub turned_next : (s a m : ℕ) (l : List ℕ) → s ≤ length l → a + m ≤ length l → take m (drop a (turned s l)) ≡ take m (turned (ahead (length l) s a) l)
unfolding turned
turned_next s a m l hs ha = go (ltb (s + a) (length l)) refl
  where
    go : (b : Bool) → ltb (s + a) (length l) ≡ b → take m (drop a (turned s l)) ≡ take m (turned (ahead (length l) s a) l)
    go true f =
        let k : s + a < length l = ltb-true _ _ f in
        let d = drop (s + a) l ++ take s l in
        let ld : length d ≡ length l - a = length-append (drop (s + a) l) (take s l) ∙ omega (arith, length-drop (s + a) l, length-take s l) in
        let x : drop a (turned s l) ≡ d = drop-append-le a (drop s l) (take s l) (omega (arith, length-drop s l)) ∙ ap (λ (w : List ℕ). w ++ take s l) (drop-drop a s l) in
        let y : turned (s + a) l ≡ d ++ take a (drop s l) = ap (λ (w : List ℕ). drop (s + a) l ++ w) (take-add s a l) ∙ sym (append_assoc (drop (s + a) l) (take s l) (take a (drop s l))) in
        ap (take m) x
        ∙ sym (ap (λ (k : ℕ). take m (turned k l)) (ahead_before (length l) s a k) ∙ ap (take m) y ∙ take-append-le m d (take a (drop s l)) (omega arith))
    go false f =
        let k : length l ≤ s + a = ltb-false _ _ f in
        let j = s + a - length l in
        let n : a ≡ length (drop s l) + j = omega (arith, length-drop s l) in
        let q : j + (s - j) ≡ s = omega arith in
        let x : drop a (turned s l) ≡ drop j (take s l) = ap (λ (k : ℕ). drop k (turned s l)) n ∙ drop-append-add (drop s l) (take s l) j in
        let y : drop j (take s l) ≡ take (s - j) (drop j l) = ap (λ (k : ℕ). drop j (take k l)) (sym q) ∙ sym (take_drop (s - j) j l (omega arith)) in
        ap (take m) (x ∙ y)
        ∙ take-take m (s - j) (drop j l) (omega arith)
        ∙ sym (ap (λ (k : ℕ). take m (turned k l)) (ahead_behind (length l) s a k) ∙ take-append-le m (drop j l) (take j l) (omega (arith, length-drop j l)))

-- ---- write
written_left : (d t xs : List ℕ) (u : ℕ) → u + length xs ≤ length d → written (d ++ t) u xs ≡ written d u xs ++ t
unfolding written
written_left d t xs u h =
    ap₂ (λ (a b : List ℕ). a ++ (xs ++ b)) (take-append-le u d t (omega arith)) (drop-append-le (u + length xs) d t h)
    ∙ regroup (take u d) xs (drop (u + length xs) d) t
  where
    regroup : (a b c e : List ℕ) → a ++ (b ++ (c ++ e)) ≡ (a ++ (b ++ c)) ++ e
    regroup a b c e = simp append_assoc

written_right : (d t xs : List ℕ) (u j : ℕ) → u ≡ length d + j → written (d ++ t) u xs ≡ d ++ written t j xs
unfolding written
written_right d t xs u j e =
    let z : u + length xs ≡ length d + (j + length xs) = omega arith in
    ap₂ (λ (a b : List ℕ). a ++ (xs ++ b)) (ap (λ (k : ℕ). take k (d ++ t)) e ∙ take-append-add d t j) (ap (λ (k : ℕ). drop k (d ++ t)) z ∙ drop-append-add d t (j + length xs))
    ∙ append_assoc d (take j t) (xs ++ drop (j + length xs) t)

-- xs written behind u bytes, in the ring's order. t: the bytes before the start, d: those from it on
module _ (t d xs : List ℕ) (s u : ℕ) (lt : length t ≡ s) (h : u + length xs ≤ length d + length t) where
  -- before the end
  around_before : u + length xs ≤ length d → turned s (written (t ++ d) (s + u) xs) ≡ written (d ++ t) u xs
  around_before k =
      ap (turned s) (written_right t d xs (s + u) u (omega arith)) ∙ turned_join t (written d u xs) s lt ∙ sym (written_left d t xs u k)

  -- behind the front
  around_behind : (j : ℕ) → u ≡ length d + j → turned s (written (t ++ d) j xs) ≡ written (d ++ t) u xs
  around_behind j e =
      ap (turned s) (written_left t d xs j (omega arith))
      ∙ turned_join (written t j xs) d s (written_length t j xs (omega arith) ∙ lt)
      ∙ sym (written_right d t xs u j e)

  -- over the end
  around_over : (k : ℕ) → u + k ≡ length d → k ≤ length xs → turned s (written (written (t ++ d) (s + u) (take k xs)) 0 (drop k xs)) ≡ written (d ++ t) u xs
  around_over k e l =
      let a = take k xs in
      let b = drop k xs in
      let la : length a ≡ k = length-take-le k xs l in
      let lb : length b ≡ length xs - k = length-drop k xs in
      let lw : length (written d u a) ≡ length d = written_length d u a (omega arith) in
      ap (λ (x : List ℕ). turned s (written x 0 b)) (written_right t d a (s + u) u (omega arith))
      ∙ ap (turned s) (written_left t (written d u a) b 0 (omega arith))
      ∙ turned_join (written t 0 b) (written d u a) s (written_length t 0 b (omega arith) ∙ lt)
      ∙ sym (written_right (written d u a) t b (u + length a) 0 (omega arith))
      ∙ ap (λ (x : List ℕ). written x (u + length a) b) (sym (written_left d t a u (omega arith)))
      ∙ written_more (d ++ t) u a (omega (arith, length-append d t)) b
      ∙ ap (written (d ++ t) u) (take-append-drop k xs)

-- what has room before the end is one piece
pub around_one : (l : List ℕ) (at : ℕ) (xs : List ℕ) → length xs ≤ length l - at → around l at xs ≡ written l at xs
unfolding around
around_one l at xs h =
    ap₂ (λ (a b : List ℕ). written (written l at a) 0 b) (take_all (length l - at) xs h) (drop_of_length-le xs {i = length l - at} h)
    ∙ written_none (written l at xs) 0

-- what is written from u places behind the start, read from the start
pub turned_around : (s u : ℕ) (l xs : List ℕ) → s ≤ length l → u + length xs ≤ length l → turned s (around l (ahead (length l) s u) xs) ≡ written (turned s l) u xs
unfolding around turned
turned_around s u l xs hs h = go (ltb (s + u) (length l)) refl (leb (s + u + length xs) (length l)) refl
  where
    go : (b : Bool) → ltb (s + u) (length l) ≡ b → (c : Bool) → leb (s + u + length xs) (length l) ≡ c
        → turned s (around l (ahead (length l) s u) xs) ≡ written (turned s l) u xs
    go true f true g =
        let lt : length (take s l) ≡ s = length-take-le s l hs in
        let ld : length (drop s l) ≡ length l - s = length-drop s l in
        let kf : s + u < length l = ltb-true _ _ f in
        let kg : s + u + length xs ≤ length l = leb-true _ _ g in
        ap (λ (k : ℕ). turned s (around l k xs)) (ahead_before (length l) s u kf)
        ∙ ap (turned s) (around_one l (s + u) xs (omega arith) ∙ ap (λ (a : List ℕ). written a (s + u) xs) (sym (take-append-drop s l)))
        ∙ around_before (take s l) (drop s l) xs s u lt (omega arith) (omega arith)
    go true f false g =
        let lt : length (take s l) ≡ s = length-take-le s l hs in
        let ld : length (drop s l) ≡ length l - s = length-drop s l in
        let kf : s + u < length l = ltb-true _ _ f in
        let kg : length l < s + u + length xs = leb-false _ _ g in
        let k = length l - (s + u) in
        ap (λ (k : ℕ). turned s (around l k xs)) (ahead_before (length l) s u kf)
        ∙ ap (λ (a : List ℕ). turned s (written (written a (s + u) (take k xs)) 0 (drop k xs))) (sym (take-append-drop s l))
        ∙ around_over (take s l) (drop s l) xs s u lt (omega arith) k (omega arith) (omega arith)
    go false f c g =
        let lt : length (take s l) ≡ s = length-take-le s l hs in
        let ld : length (drop s l) ≡ length l - s = length-drop s l in
        let kf : length l ≤ s + u = ltb-false _ _ f in
        let j = s + u - length l in
        ap (λ (k : ℕ). turned s (around l k xs)) (ahead_behind (length l) s u kf)
        ∙ ap (turned s) (around_one l j xs (omega arith) ∙ ap (λ (a : List ℕ). written a j xs) (sym (take-append-drop s l)))
        ∙ around_behind (take s l) (drop s l) xs s u lt (omega arith) j (omega arith)

pub around_length : (l : List ℕ) (at : ℕ) (xs : List ℕ) → at ≤ length l → length xs ≤ length l → length (around l at xs) ≡ length l
unfolding around
around_length l at xs h k =
    let n = length l - at in
    let w : length (written l at (take n xs)) ≡ length l = written_length l at (take n xs) (omega (arith, length-take n xs)) in
    written_length (written l at (take n xs)) 0 (drop n xs) (omega (arith, length-drop n xs)) ∙ w

-- ---- place by place
turned_at : (s i : ℕ) (l : List ℕ) → s ≤ length l → i < length l → get_or (turned s l) i 0 ≡ get_or l (ahead (length l) s i) 0
unfolding turned
turned_at s i l hs hi = go (ltb (s + i) (length l)) refl
  where
    go : (b : Bool) → ltb (s + i) (length l) ≡ b → get_or (drop s l ++ take s l) i 0 ≡ get_or l (ahead (length l) s i) 0
    go true f =
        let k : s + i < length l = ltb-true _ _ f in
        get_or-append (drop s l) (take s l) 0 i (omega (arith, length-drop s l))
        ∙ get_or-drop s l i 0
        ∙ ap (λ (k : ℕ). get_or l k 0) (sym (ahead_before (length l) s i k))
    go false f =
        let k : length l ≤ s + i = ltb-false _ _ f in
        let j = s + i - length l in
        let n : i ≡ length (drop s l) + j = omega (arith, length-drop s l) in
        ap (λ (k : ℕ). get_or (drop s l ++ take s l) k 0) n
        ∙ get_or-append-add (drop s l) (take s l) j 0
        ∙ get_or-take s l j 0 (omega arith)
        ∙ ap (λ (k : ℕ). get_or l k 0) (sym (ahead_behind (length l) s i k))

module _ (l xs : List ℕ) (at : ℕ) (ha : at < length l) (hx : length xs ≤ length l) where
  same_length : length (around l at xs) ≡ length l
  same_length = around_length l at xs (omega arith) hx

  -- j places behind the first
  back : (j : ℕ) → j < length l → get_or (around l at xs) (ahead (length l) at j) 0 ≡ get_or (written (turned at l) 0 xs) j 0
  back j h =
      let z : ahead (length l) at 0 ≡ at = ahead_before (length l) at 0 (omega arith) ∙ omega arith in
      ap (λ (n : ℕ). get_or (around l at xs) (ahead n at j) 0) (sym same_length)
      ∙ sym (turned_at at j (around l at xs) (omega (arith, same_length)) (omega (arith, same_length)))
      ∙ ap (λ (x : List ℕ). get_or x j 0) (ap (λ (k : ℕ). turned at (around l k xs)) (sym z) ∙ turned_around at 0 l xs (omega arith) (omega arith))

  -- byte j of what was written stands j places behind the first, around the end
  pub around_own : (j : ℕ) → j < length xs → get_or (around l at xs) (ahead (length l) at j) 0 ≡ get_or xs j 0
  unfolding written
  around_own j h = back j (omega arith) ∙ get_or-append xs (drop (0 + length xs) (turned at l)) 0 j h

  -- and every other place is as it was
  pub around_other : (j : ℕ) → length xs ≤ j → j < length l → get_or (around l at xs) (ahead (length l) at j) 0 ≡ get_or l (ahead (length l) at j) 0
  unfolding written
  around_other j h k =
      let i = j - length xs in
      let n : j ≡ length xs + i = omega arith in
      let m : 0 + length xs + i ≡ j = omega arith in
      back j k
      ∙ ap (λ (x : ℕ). get_or (xs ++ drop (0 + length xs) (turned at l)) x 0) n
      ∙ get_or-append-add xs (drop (0 + length xs) (turned at l)) i 0
      ∙ get_or-drop (0 + length xs) (turned at l) i 0
      ∙ ap (λ (x : ℕ). get_or (turned at l) x 0) m
      ∙ turned_at at j l (omega arith) k
