-- Laws of the tree. Assumes nothing.
use Prim.Native.Nat.{ℕ, zero, suc, ◌+◌, ◌*◌, ◌/◌, ◌≤◌, ◌<◌}
use mathlib.Core.Path.{◌≡◌, refl, sym, ap, ap₂, ◌∙◌, subst}
use mathlib.Core.Bool.{Bool, true, false}
use mathlib.Core.List.{List, [], ◌∷◌, ◌++◌}
use mathlib.Core.Logic.{◌⊎◌, inl, inr, ⊎_elim}
use native.Mathlib.Numerals.{add-one}
use native.Mathlib.Omega.{arith}
use lib.Dec.{T, eqb, eqb→eq}
use borrow.Author.Tests.{eqb-false}
use lib.ListN.{length, get_or, take, set}
use lib.Seq.{get_or-set_same, get_or-set_other, take-suc-set}
use Rattle.repeats.specs.Tree.{slot_of, Leads, Reach, Tree, Miss, Stored}

-- one step more at the end
snoc : (kids : List ℕ) (k w v w' v' : ℕ) → Leads kids k w v w' v' → (get_or kids (slot_of w' v') 0 ≡ 0 → ⊥)
    → Leads kids (suc k) w v (w' / 2) (get_or kids (slot_of w' v') 0)
snoc kids zero w v w' v' l h =
    let e : slot_of w v ≡ slot_of w' v' = ap₂ slot_of l.0 l.1 in
    (rw e h, (ap (λ (x : ℕ). x / 2) l.0, ap (λ (x : ℕ). get_or kids x 0) e))
snoc kids (suc k) w v w' v' l h = (l.0, snoc kids k (w / 2) (get_or kids (slot_of w v) 0) w' v' l.1 h)

pub reach_down : (kids : List ℕ) (key node w m : ℕ) → (r : Reach kids key node) → r.rest ≡ w → m ≡ get_or kids (slot_of w node) 0 → (m ≡ 0 → ⊥) → Reach kids key m
reach_down kids key node w m r e f h =
    record { steps = suc r.steps; rest = r.rest / 2; leads = rw (f, ← e) (snoc kids r.steps key 0 r.rest node r.leads (rw (e, ← f) h)) }

-- a free slot that is taken: every way stays
grow : (kids : List ℕ) (s m k w v w' v' : ℕ) → get_or kids s 0 ≡ 0 → Leads kids k w v w' v' → Leads (set kids s m) k w v w' v'
grow kids s m zero w v w' v' z l = l
grow kids s m (suc k) w v w' v' z l =
    let d : slot_of w v ≡ s → ⊥ = (λ e. l.0 (ap (λ (x : ℕ). get_or kids x 0) e ∙ z)) in
    let g : get_or (set kids s m) (slot_of w v) 0 ≡ get_or kids (slot_of w v) 0 = get_or-set_other kids s (slot_of w v) m 0 d in
    (rw g l.0, rw g (grow kids s m k (w / 2) (get_or kids (slot_of w v) 0) w' v' z l.1))

-- what the loop knows: where it is on the key's way, and that each node of the way is behind it and is another, or is yet to come
pub record On (keys kids : List ℕ) (n key w node : ℕ) : Type 0 where
  pub inside : node < n
  pub way : Reach kids key node
  pub rest : way.rest ≡ w
  pub ahead : (k w' j : ℕ) → Leads kids k key 0 w' j → get_or keys j 0 ≡ key → (i : ℕ) × Leads kids i w node w' j

pub on_start : (keys kids : List ℕ) (n key : ℕ) → 0 < n → On keys kids n key key 0
on_start keys kids n key h = record { inside = h; way = record { steps = 0; rest = key; leads = (refl, refl) }; rest = refl; ahead = λ k w' j l e. (k, l) }

module _ (keys kids : List ℕ) (n key w node : ℕ) (t : Tree keys kids n) (on : On keys kids n key w node) (not-here : get_or keys node 0 ≡ key → ⊥) where
  later : (i w' j : ℕ) → get_or keys j 0 ≡ key → Leads kids i w node w' j
      → (k : ℕ) × ((get_or kids (slot_of w node) 0 ≡ 0 → ⊥) × Leads kids k (w / 2) (get_or kids (slot_of w node) 0) w' j)
  later zero w' j e l = absurd (not-here (ap (λ (x : ℕ). get_or keys x 0) l.1 ∙ e))
  later (suc i) w' j e l = (i, (l.0, l.1))

  module _ (m : ℕ) (is : m ≡ get_or kids (slot_of w node) 0) where
    pub child : (m ≡ 0 → ⊥) → (node < m) × (m < n)
    child h = ⊎_elim (λ z. absurd (h (is ∙ z))) (λ o. let a = o.0 in let b = o.1 in (omega arith, omega arith)) (t.order (slot_of w node))

    pub on_next : (m ≡ 0 → ⊥) → On keys kids n key (w / 2) m
    unfolding reach_down
    on_next h = record {
      inside = (child h).1;
      way = reach_down kids key node w m on.way on.rest is h;
      rest = ap (λ (x : ℕ). x / 2) on.rest;
      ahead = λ k w' j l e. let a = on.ahead k w' j l e in let b = later a.0 w' j e a.1 in (b.0, rw is b.1.1);
    }

    pub on_miss : m ≡ 0 → Miss keys kids n key (slot_of w node)
    on_miss z = record {
      node = node;
      way = on.way;
      inside = on.inside;
      slot_is = ap (λ (x : ℕ). slot_of x node) (sym on.rest);
      empty = sym is ∙ z;
      other = λ m.
          let r = t.reach m.index m.low in
          let a = on.ahead r.steps r.rest m.index (subst (λ (x : ℕ). Leads kids r.steps x 0 r.rest m.index) m.same r.leads) m.same in
          let b = later a.0 r.rest m.index m.same a.1 in
          b.1.0 (sym is ∙ z);
    }

-- as the code meets it: m is the child
module _ (keys kids : List ℕ) (n key w node : ℕ) (t : Tree keys kids n) (on : On keys kids n key w node) (not-here : get_or keys node 0 ≡ key → ⊥)
    (m : ℕ) (m_is : m ≡ get_or kids (slot_of w node) 0) where
  pub go_on : (m ≡ 0 → ⊥) → On keys kids n key (w / 2) m
  go_on h = on_next keys kids n key w node t on not-here m m_is h

  pub go_down : (m ≡ 0 → ⊥) → (node < m) × (m < n)
  go_down h = child keys kids n key w node t on not-here m m_is h

  pub go_out : m ≡ 0 → Miss keys kids n key (slot_of w node)
  go_out z = on_miss keys kids n key w node t on not-here m m_is z

-- ---- what `insert` leaves

same? : (a b : ℕ) → (a ≡ b) ⊎ (a ≡ b → ⊥)
same? a b = go (eqb a b) refl
  where
    go : (t : Bool) → eqb a b ≡ t → (a ≡ b) ⊎ (a ≡ b → ⊥)
    go true e = inl (eqb→eq a b (subst T (sym e) tt))
    go false e = inr (eqb-false a b e)

wider : (n m k : ℕ) → (m ≡ 0) ⊎ ((k < m) × (m < n)) → (m ≡ 0) ⊎ ((k < m) × (m < n + 1))
wider n m k (inl z) = inl z
wider n m k (inr o) = let a = o.0 in let b = o.1 in inr (a, omega arith)

front_new : (keys : List ℕ) (n key : ℕ) → n < length keys → take (n + 1) (set keys n key) ≡ take n keys ++ (key ∷ [])
front_new keys n key h = rw add-one (take-suc-set keys n key h)

pub stored_first : (keys kids : List ℕ) (n key : ℕ) → n < length keys → Tree keys kids n → n ≡ 0 → Stored keys kids n key false (set keys 0 key) kids
stored_first keys kids n key h t z = record {
  was = λ e. absurd (let z : ◌≡◌ {A = ℕ} 0 1 = cc in omega arith);
  new = λ e. (λ m. let l = m.low in omega arith, record { order = λ k. wider n (get_or kids k 0) (k / 2) (t.order k); reach = λ j l. first j (omega arith) }, subst (λ (x : ℕ). take (n + 1) (set keys x key) ≡ take n keys ++ (key ∷ [])) z (front_new keys n key h));
}
  where
    first : (j : ℕ) → j ≡ 0 → Reach kids (get_or (set keys 0 key) j 0) j
    first j e = record { steps = 0; rest = get_or (set keys 0 key) j 0; leads = (refl, sym e) }

pub stored_was : (keys kids : List ℕ) (n key node : ℕ) → (node < n) × (get_or keys node 0 ≡ key) → Stored keys kids n key true keys kids
stored_was keys kids n key node e = record {
  was = λ t. (record { index = node; low = e.0; same = e.1 }, refl, refl);
  new = λ t. absurd (let z : ◌≡◌ {A = ℕ} 0 1 = cc in omega arith);
}

module _ (keys kids : List ℕ) (n key : ℕ) (t : Tree keys kids n) (pos : n ≡ 0 → ⊥) (room : n < length keys) (s : ℕ) (m : Miss keys kids n key s) (fits : 2 * n + 2 ≤ length kids) where
  pub low_slot : s < length kids
  low_slot = let a = m.slot_is in let b = m.inside in omega arith

  order' : (k : ℕ) → (get_or (set kids s n) k 0 ≡ 0) ⊎ ((k / 2 < get_or (set kids s n) k 0) × (get_or (set kids s n) k 0 < n + 1))
  order' k = ⊎_elim at_slot elsewhere (same? k s)
    where
      at_slot : k ≡ s → (get_or (set kids s n) k 0 ≡ 0) ⊎ ((k / 2 < get_or (set kids s n) k 0) × (get_or (set kids s n) k 0 < n + 1))
      at_slot e =
          let g : get_or (set kids s n) k 0 ≡ n = ap (λ (x : ℕ). get_or (set kids s n) x 0) e ∙ get_or-set_same kids s n 0 low_slot in
          let a = m.slot_is in let b = m.inside in
          inr (omega arith, omega arith)

      elsewhere : (k ≡ s → ⊥) → (get_or (set kids s n) k 0 ≡ 0) ⊎ ((k / 2 < get_or (set kids s n) k 0) × (get_or (set kids s n) k 0 < n + 1))
      elsewhere d = rw (get_or-set_other kids s k n 0 d) (wider n (get_or kids k 0) (k / 2) (t.order k))

  grown : (w j : ℕ) → Reach kids w j → Reach (set kids s n) w j
  grown w j r = record { steps = r.steps; rest = r.rest; leads = grow kids s n r.steps w 0 r.rest j m.empty r.leads }

  at_n : Reach (set kids s n) key n
  unfolding grown
  at_n =
      let a = m.slot_is in
      let g : n ≡ get_or (set kids s n) (slot_of m.way.rest m.node) 0 = sym (get_or-set_same kids s n 0 low_slot) ∙ ap (λ (x : ℕ). get_or (set kids s n) x 0) a in
      reach_down (set kids s n) key m.node m.way.rest n (grown key m.node m.way) refl g pos

  reach' : (j : ℕ) → j < n + 1 → Reach (set kids s n) (get_or (set keys n key) j 0) j
  reach' j h = ⊎_elim new old (same? j n)
    where
      new : j ≡ n → Reach (set kids s n) (get_or (set keys n key) j 0) j
      new e = subst (λ (x : ℕ). Reach (set kids s n) (get_or (set keys n key) x 0) x) (sym e) (rw (get_or-set_same keys n key 0 room) at_n)

      old : (j ≡ n → ⊥) → Reach (set kids s n) (get_or (set keys n key) j 0) j
      old d = rw (get_or-set_other keys n j key 0 d) (grown (get_or keys j 0) j (t.reach j (omega arith)))

  pub stored_new : Stored keys kids n key false (set keys n key) (set kids s n)
  stored_new = record {
    was = λ e. absurd (let z : ◌≡◌ {A = ℕ} 0 1 = cc in omega arith);
    new = λ e. (m.other, record { order = order'; reach = reach' }, front_new keys n key room);
  }
