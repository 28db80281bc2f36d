-- Condition C over what happens to one queue, down to its units. Assumes nothing.
use Prim.Native.Nat.{ℕ, zero, suc, ◌+◌, ◌-◌, ◌*◌, ◌/◌, ◌<◌, ◌≤◌, min}
use mathlib.Core.Path.{◌≡◌, refl, sym, ap, ◌∙◌}
use mathlib.Core.List.{List, [], ◌∷◌, ◌++◌, append_assoc, append-nil}
use mathlib.Core.Bool.{Bool, true, false}
use native.Mathlib.Omega.{arith}
use native.Mathlib.Nat.{div-eq_of_lt-le, div-eq-sub-div, div-add-mod', mod-lt, add_comm, mul-le-mul_right}
use borrow.Author.Tests.{leb-true, leb-false}
use lib.Dec.{leb}
use Rattle.laws.specs.Pick.{pick}
use Rattle.queue.specs.Queue.{add_up, packets, waits, over}
use Rattle.queue.specs.Send.{one, send, AllPos, Change, enters, leaves, changed, Lawful, shares, got, later}

-- ---- packets
-- a unit of at most p bytes takes one packet
packets_one : (p x : ℕ) → 1 ≤ x → x ≤ p → packets p x ≡ 1
unfolding packets
packets_one p x h l = div-eq_of_lt-le p (omega arith) (omega arith)

-- a longer one takes one more than what is left after a packet
packets_more : (p x : ℕ) → 1 ≤ p → p < x → packets p x ≡ packets p (x - p) + 1
unfolding packets
packets_more p x h l =
    div-eq-sub-div {m = p} {n = x + (p - 1)} h (omega arith) ∙ ap (λ (k : ℕ). k / p + 1) (omega arith)

-- ---- one packet
module _ (p : ℕ) (hp : 1 ≤ p) where
  waits_one : (xs : List ℕ) → AllPos xs → waits p (one p xs) ≡ waits p xs - 1
  unfolding one waits add_up
  waits_one [] a = refl
  waits_one (x ∷ xs) a = go (leb x p) refl
    where
      go : (b : Bool) → leb x p ≡ b → add_up (packets p) (pick b xs ((x - p) ∷ xs)) ≡ packets p x + add_up (packets p) xs - 1
      go true e = omega (arith, packets_one p x a.0 (leb-true _ _ e))
      go false e = omega (arith, packets_more p x hp (leb-false _ _ e))

  pub pos_one : (xs : List ℕ) → AllPos xs → AllPos (one p xs)
  unfolding one
  pos_one [] a = a
  pos_one (x ∷ xs) a = go (leb x p) refl
    where
      go : (b : Bool) → leb x p ≡ b → AllPos (pick b xs ((x - p) ∷ xs))
      go true e = a.1
      go false e = let h : p < x = leb-false x p e in (omega arith, a.1)

  -- a queue that waits for something has a unit
  waits_some : (x : ℕ) → 1 ≤ x → 1 ≤ packets p x
  waits_some x h = go (leb x p) refl
    where
      go : (b : Bool) → leb x p ≡ b → 1 ≤ packets p x
      go true e = omega (arith, packets_one p x h (leb-true _ _ e))
      go false e = omega (arith, packets_more p x hp (leb-false _ _ e))

  -- ---- n packets
  pub pos_send : (n : ℕ) (xs : List ℕ) → AllPos xs → AllPos (send p n xs)
  unfolding send
  pos_send zero xs a = a
  pos_send (suc n) xs a = pos_one _ (pos_send n xs a)

  pub waits_send : (n : ℕ) (xs : List ℕ) → AllPos xs → waits p (send p n xs) ≡ waits p xs - n
  unfolding send
  waits_send zero xs a = omega arith
  waits_send (suc n) xs a = omega (arith, waits_one (send p n xs) (pos_send n xs a), waits_send n xs a)

  one_append : (xs vs : List ℕ) → 1 ≤ waits p xs → one p (xs ++ vs) ≡ one p xs ++ vs
  unfolding one waits add_up
  one_append [] vs h = absurd (omega arith)
  one_append (x ∷ xs) vs h = go (leb x p)
    where
      go : (b : Bool) → pick b (xs ++ vs) ((x - p) ∷ (xs ++ vs)) ≡ pick b xs ((x - p) ∷ xs) ++ vs
      go true = refl
      go false = refl

  -- what comes behind is not touched as long as n packets wait
  send_append : (n : ℕ) (xs vs : List ℕ) → AllPos xs → n ≤ waits p xs → send p n (xs ++ vs) ≡ send p n xs ++ vs
  unfolding send
  send_append zero xs vs a h = refl
  send_append (suc n) xs vs a h =
      ap (one p) (send_append n xs vs a (omega arith)) ∙ one_append (send p n xs) vs (omega (arith, waits_send n xs a))

  pub none_waits : (xs : List ℕ) → AllPos xs → waits p xs ≡ 0 → xs ≡ []
  unfolding waits add_up
  none_waits [] a e = refl
  none_waits (x ∷ xs) a e = absurd (omega (arith, waits_some x a.0))

  send_add : (n m : ℕ) (xs : List ℕ) → send p (n + m) xs ≡ send p n (send p m xs)
  unfolding send
  send_add zero m xs = let q : 0 + m ≡ m = omega arith in rw q
  send_add (suc n) m xs = let q : suc n + m ≡ suc (n + m) = omega arith in rw q (ap (one p) (send_add n m xs))

  -- once all that waited is sent, only what came later is there
  send_past : (n : ℕ) (xs vs : List ℕ) → AllPos xs → waits p xs ≤ n → send p n (xs ++ vs) ≡ send p (n - waits p xs) vs
  send_past n xs vs a h =
      let k = waits p xs in
      let e : send p k (xs ++ vs) ≡ vs = send_append k xs vs a (omega arith) ∙ ap (λ (l : List ℕ). l ++ vs) (none_waits (send p k xs) (pos_send k xs a) (omega (arith, waits_send k xs a))) in
      let q : n ≡ n - k + k = omega arith in
      ap (λ (m : ℕ). send p m (xs ++ vs)) q ∙ send_add (n - k) k (xs ++ vs) ∙ ap (send p (n - k)) e

  -- ---- a history
  frame_step : (k w s g f more : ℕ) → k ≤ w → min s w ≤ g → min (k - g) f ≤ more → min k (s + f) ≤ g + more
  frame_step k w s g f more h l r = omega arith

  waits_append : (xs vs : List ℕ) → waits p (xs ++ vs) ≡ waits p xs + waits p vs
  unfolding waits add_up
  waits_append [] vs = omega arith
  waits_append (x ∷ xs) vs = omega (arith, waits_append xs vs)

  pos_append : (xs vs : List ℕ) → AllPos xs → AllPos vs → AllPos (xs ++ vs)
  pos_append [] vs a b = b
  pos_append (x ∷ xs) vs a b = (a.0, pos_append xs vs a.1 b)

  -- of k packets that wait, as many are sent as the shares add up to
  pub bound : (k : ℕ) (h : List Change) (xs : List ℕ) → AllPos xs → Lawful p h xs → k ≤ waits p xs → min k (shares h) ≤ got h
  unfolding Lawful shares got
  bound k [] xs a l h = omega arith
  bound k (enters x ∷ t) xs a l h =
      bound k t (xs ++ (x ∷ [])) (pos_append xs (x ∷ []) a (l.0, tt)) l.1 (omega (arith, waits_append xs (x ∷ [])))
  bound k (leaves s g ∷ t) xs a l h =
      frame_step k (waits p xs) s g (shares t) (got t) h l.0
      (bound (k - g) t (send p g xs) (pos_send g xs a) l.2 (omega (arith, waits_send g xs a)))

  -- the queue after a history: what was there and what came, less what was sent
  pub changed_is : (h : List Change) (xs : List ℕ) → AllPos xs → Lawful p h xs → changed p h xs ≡ send p (got h) (xs ++ later h)
  unfolding changed Lawful got later send
  changed_is [] xs a l = sym (append-nil xs)
  changed_is (enters x ∷ t) xs a l = changed_is t (xs ++ (x ∷ [])) (pos_append xs (x ∷ []) a (l.0, tt)) l.1 ∙ ap (send p (got t)) (append_assoc xs (x ∷ []) (later t))
  changed_is (leaves s g ∷ t) xs a l =
      changed_is t (send p g xs) (pos_send g xs a) l.2 ∙ ap (send p (got t)) (sym (send_append g xs (later t) a l.1))
      ∙ sym (send_add (got t) g (xs ++ later t)) ∙ ap (λ (n : ℕ). send p n (xs ++ later t)) (add_comm (got t) g)

  -- CONDITION C: once the shares of the frames since acceptance add up to what waited then, nothing of it is left
  pub wholly_sent_law : (h : List Change) (xs : List ℕ) → AllPos xs → Lawful p h xs → waits p xs ≤ shares h
      → changed p h xs ≡ send p (got h - waits p xs) (later h)
  wholly_sent_law h xs a l e =
      changed_is h xs a l ∙ send_past (got h) xs (later h) a (omega (arith, bound (waits p xs) h xs a l (omega arith)))

-- ---- rounded up
pub over_le : (k s f : ℕ) → 1 ≤ s → over k s ≤ f → k ≤ f * s
over_le k s f h l =
    omega (arith, div-add-mod' (k + (s - 1)) s, mod-lt (k + (s - 1)) h, mul-le-mul_right s l)
