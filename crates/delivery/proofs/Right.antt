-- Every packet of a run is one that no receiver in order refuses: the packets counted in a frame are all of it. Assumes nothing.
use Prim.Native.Nat.{ℕ, zero, suc, ◌+◌, ◌≤◌}
use mathlib.Core.Path.{◌≡◌, refl, sym, ◌∙◌, subst}
use mathlib.Core.List.{List, [], ◌∷◌, ◌++◌, append_assoc}
use mathlib.Core.Bool.{Bool, true, false}
use native.Mathlib.Omega.{arith}
use borrow.Author.Tests.{eqb-true, ne_eqb}
use lib.Dec.{eqb}
use lib.ListN.{length, drop}
use Rattle.laws.specs.Pick.{pick}
use Rattle.packet.specs.Packet.{Packet, decode}
use Rattle.packet.specs.Calls.{check_for}
use Rattle.demand.specs.Bytes.{split, readable, own}
use Rattle.demand.specs.Run.{Act, load, frame, settings_of, Answer}
use Rattle.demand.specs.Log.{Event, Stands, gather, packets_of, sent_of}
use Rattle.demand.specs.Reported.{Reported}

pub AllRight : ℕ → List (List ℕ) → Type 0
AllRight p [] = Unit {0}
AllRight p (s ∷ ss) = (check_for p s ≡ 0) × AllRight p ss

right_append : (p : ℕ) (ss ts : List (List ℕ)) → AllRight p ss → AllRight p ts → AllRight p (ss ++ ts)
unfolding AllRight
right_append p [] ts a b = b
right_append p (s ∷ ss) ts a b = (a.0, right_append p ss ts a.1 b)

pub right_at : (p : ℕ) (before behind : List (List ℕ)) (s : List ℕ) → AllRight p (before ++ (s ∷ behind)) → check_for p s ≡ 0
unfolding AllRight
right_at p [] behind s a = a.0
right_at p (x ∷ before) behind s a = right_at p before behind s a.1

-- ---- where as many are read as there are, each is right
one_id : (i : ℕ) → pick {A = ℕ} (eqb 0 i) 1 0 + pick (eqb 1 i) 1 0 + pick (eqb 2 i) 1 0 + pick (eqb 3 i) 1 0 ≤ 1
one_id zero = omega arith
one_id (suc zero) = omega arith
one_id (suc (suc zero)) = omega arith
one_id (suc (suc (suc zero))) = omega arith
one_id (suc (suc (suc (suc i)))) =
    let n = suc (suc (suc (suc i))) in
    rw (ne_eqb 0 n (λ e. omega arith), ne_eqb 1 n (λ e. omega arith), ne_eqb 2 n (λ e. omega arith), ne_eqb 3 n (λ e. omega arith)) (omega arith)

own_count : (id : ℕ) (k : Packet) (ks : List Packet) → length (own id (k ∷ ks)) ≡ pick (eqb id k.id) 1 0 + length (own id ks)
unfolding own
own_count id k ks = go (eqb id k.id)
  where
    go : (b : Bool) → length (pick b (k ∷ []) [] ++ own id ks) ≡ pick b 1 0 + length (own id ks)
    go true = omega arith
    go false = omega arith

none_own : length (own 0 []) + length (own 1 []) + length (own 2 []) + length (own 3 []) ≤ 0
unfolding own
none_own = omega arith

four_ids : (ks : List Packet) → length (own 0 ks) + length (own 1 ks) + length (own 2 ks) + length (own 3 ks) ≤ length ks
four_ids [] = none_own
four_ids (k ∷ ks) = omega (arith, own_count 0 k ks, own_count 1 k ks, own_count 2 k ks, own_count 3 k ks, one_id k.id, four_ids ks)

read_most : (p : ℕ) (ss : List (List ℕ)) → length (readable p ss) ≤ length ss
unfolding readable
read_most p [] = omega arith
read_most p (s ∷ ss) = go (eqb (check_for p s) 0) (read_most p ss)
  where
    go : (b : Bool) → length (readable p ss) ≤ length ss → length (pick b (decode p s ∷ []) [] ++ readable p ss) ≤ suc (length ss)
    go true h = omega arith
    go false h = omega arith

all_right : (p : ℕ) (ss : List (List ℕ)) → length ss ≤ length (readable p ss) → AllRight p ss
unfolding AllRight readable
all_right p [] h = tt
all_right p (s ∷ ss) h = go (eqb (check_for p s) 0) refl h (all_right p ss)
  where
    go : (b : Bool) → eqb (check_for p s) 0 ≡ b → suc (length ss) ≤ length (pick b (decode p s ∷ []) [] ++ readable p ss)
        → (length ss ≤ length (readable p ss) → AllRight p ss) → (check_for p s ≡ 0) × AllRight p ss
    go true e l rest = (eqb-true _ _ e, rest (omega arith))
    go false e l rest = absurd (omega (arith, read_most p ss))

split_length : (w n : ℕ) (s : List ℕ) → length (split w n s) ≡ n
unfolding split
split_length w zero s = refl
split_length w (suc n) s = omega (arith, split_length w n (drop w s))

-- ---- of a run
module _ (p : ℕ) (es : List Event) (r : Reported p es) where
  -- the packets of one call
  call_right : (before behind : List Event) (a : Act) (b : Answer) → es ≡ before ++ (record { act = a; answer = b } ∷ behind) → b.number ≡ 0
      → AllRight (settings_of a).p (packets_of a b)
  unfolding packets_of AllRight
  call_right before behind (load g id unit) b e z = tt
  call_right before behind (frame g out) b e z =
      let ss = split (g.p + 3) g.n b.out in
      let w = r.whole (record { before = before; g = g; lent = out; answer = b; behind = behind; there = e; done = z }) in
      all_right g.p ss (omega (arith, split_length (g.p + 3) g.n b.out, four_ids (readable g.p ss), w))

  run_right : (before rest : List Event) → es ≡ before ++ rest → Stands p rest → AllRight p (sent_of rest)
  unfolding gather AllRight
  run_right before [] q st = tt
  run_right before (e ∷ rest) q st =
      right_append p (pick (eqb e.answer.number 0) (packets_of e.act e.answer) []) (sent_of rest) (go (eqb e.answer.number 0) refl)
      (run_right (before ++ (e ∷ [])) rest (q ∙ sym (append_assoc before (e ∷ []) rest)) st.1)
    where
      go : (b : Bool) → eqb e.answer.number 0 ≡ b → AllRight p (pick b (packets_of e.act e.answer) [])
      go true f =
          let z = eqb-true _ _ f in
          subst (λ (n : ℕ). AllRight n (packets_of e.act e.answer)) (st.0 z) (call_right before rest e.act e.answer q z)
      go false f = tt

pub sent_right : (p : ℕ) (es : List Event) → Reported p es → Stands p es → AllRight p (sent_of es)
sent_right p es r st = run_right p es r [] es refl st
