-- Writing at an offset, and how writes join up. Assumes nothing.
use mathlib.Core.Path.{◌≡◌, refl, sym, ap, ap₂, ◌∙◌}
use mathlib.Core.List.{List, [], ◌∷◌, ◌++◌, append_assoc}
use Prim.Native.Nat.{ℕ, ◌+◌, ◌≤◌, ◌<◌}
use native.Mathlib.Nat.{add_assoc, zero-add}
use native.Mathlib.Numerals.{add-one}
use native.Mathlib.Omega.{arith}
use lib.ListN.{length, get_or, take, drop, set, length-append, length-drop, take-append-drop, get_or-append}
use Rattle.laws.specs.Written.{written}
use lib.Seq.{set_split, take_at, drop_at, length-take-le, drop-drop, take-suc, get_or-append-add, get_or-take, get_or-drop}

module _ (d : List ℕ) (at : ℕ) where
  pub written_none : written d at [] ≡ d
  unfolding written
  written_none = rw native.Mathlib.Nat.add-zero (take-append-drop at d)

  pub set_written : (x : ℕ) → at < length d → set d at x ≡ written d at (x ∷ [])
  unfolding written
  set_written x h = rw add-one (set_split d at x h)

  module _ (xs : List ℕ) (fits : at + length xs ≤ length d) where
    head_length : length (take at d ++ xs) ≡ at + length xs
    head_length = simp (length-append, length-take-le at d (omega arith)) refl

    pub written_length : length (written d at xs) ≡ length d
    unfolding written
    written_length = simp (length-append, length-take-le at d (omega arith), length-drop) (omega arith)

    -- what is written behind what was written
    pub written_more : (ys : List ℕ) → written (written d at xs) (at + length xs) ys ≡ written d at (xs ++ ys)
    unfolding written
    written_more ys =
        let n = at + length xs in
        let w : take at d ++ (xs ++ drop n d) ≡ (take at d ++ xs) ++ drop n d = sym (append_assoc (take at d) xs (drop n d)) in
        ap₂ (λ (a b : List ℕ). a ++ (ys ++ b))
        (ap (take n) w ∙ take_at (take at d ++ xs) (drop n d) n head_length)
        (ap (drop (n + length ys)) w
        ∙ sym (drop-drop (length ys) n ((take at d ++ xs) ++ drop n d))
        ∙ ap (drop (length ys)) (drop_at (take at d ++ xs) (drop n d) n head_length)
        ∙ drop-drop (length ys) n d)
        ∙ append_assoc (take at d) xs (ys ++ drop (n + length ys) d)
        ∙ ap (λ (l : List ℕ). take at d ++ l)
        (sym (append_assoc xs ys (drop (n + length ys) d))
        ∙ ap (λ (k : ℕ). (xs ++ ys) ++ drop k d) (add_assoc at (length xs) (length ys) ∙ ap (λ (k : ℕ). at + k) (sym (length-append xs ys))))

-- a turn of a loop that writes s at an offset
pub written_turn : (d e : List ℕ) (at : ℕ) (s : List ℕ) (j v : ℕ) → at + length s ≤ length d → j < length s → v ≡ get_or s j 0
    → e ≡ written d at (take j s) → set e (at + j) v ≡ written d at (take (j + 1) s)
written_turn d e at s j v fits h p q =
    let n : length (take j s) ≡ j = length-take-le j s (omega arith) in
    let f : at + length (take j s) ≤ length d = omega arith in
    let l : length (written d at (take j s)) ≡ length d = written_length d at (take j s) f in
    rw (q, p, add-one, take-suc s j 0)
    (set_written (written d at (take j s)) (at + j) (get_or s j 0) (omega arith)
    ∙ ap (λ (k : ℕ). written (written d at (take j s)) (at + k) (get_or s j 0 ∷ [])) (sym n)
    ∙ written_more d at (take j s) f (get_or s j 0 ∷ []))

-- the same at the front: a loop that fills an output from its first byte
pub written_front : (d e s : List ℕ) (j v : ℕ) → length s ≤ length d → j < length s → v ≡ get_or s j 0
    → e ≡ written d 0 (take j s) → set e j v ≡ written d 0 (take (j + 1) s)
written_front d e s j v fits h p q = ap (λ (k : ℕ). set e k v) (sym (zero-add j)) ∙ written_turn d e 0 s j v (rw zero-add fits) h p q

-- stores one behind the other, each to what the last one left: the list that straight-line code leaves
pub store_next : (d e : List ℕ) (at : ℕ) (xs : List ℕ) (k x : ℕ) → length xs ≡ k → at + k < length d → e ≡ written d at xs
    → set e (at + k) x ≡ written d at (xs ++ (x ∷ []))
store_next d e at xs k x n fits q =
    let f : at + length xs ≤ length d = omega arith in
    let l : length (written d at xs) ≡ length d = written_length d at xs f in
    rw q
    (set_written (written d at xs) (at + k) x (omega arith)
    ∙ ap (λ (m : ℕ). written (written d at xs) (at + m) (x ∷ [])) (sym n)
    ∙ written_more d at xs f (x ∷ []))

-- a write behind a write
pub write_next : (d e : List ℕ) (at : ℕ) (xs ys : List ℕ) (n : ℕ) → n ≡ at + length xs → n ≤ length d → e ≡ written d at xs
    → written e n ys ≡ written d at (xs ++ ys)
write_next d e at xs ys n p fits q = rw (q, p) (written_more d at xs (omega arith) ys)

-- behind what was written all is as it was
pub written_after : (d : List ℕ) (at : ℕ) (xs : List ℕ) (k : ℕ) → at + length xs ≤ length d → get_or (written d at xs) (at + length xs + k) 0 ≡ get_or d (at + length xs + k) 0
unfolding written
written_after d at xs k fits =
    let n = at + length xs in
    let e : length (take at d ++ xs) ≡ n = head_length d at xs fits in
    ap (λ (l : List ℕ). get_or l (n + k) 0) (sym (append_assoc (take at d) xs (drop n d)))
    ∙ ap (λ (m : ℕ). get_or ((take at d ++ xs) ++ drop n d) (m + k) 0) (sym e)
    ∙ get_or-append-add (take at d ++ xs) (drop n d) k 0
    ∙ get_or-drop n d k 0

-- so it is before it
pub written_before : (d : List ℕ) (at : ℕ) (xs : List ℕ) → at + length xs ≤ length d → (i : ℕ) → i < at → get_or (written d at xs) i 0 ≡ get_or d i 0
unfolding written
written_before d at xs fits i h =
    get_or-append (take at d) (xs ++ drop (at + length xs) d) 0 i (omega (arith, length-take-le at d (omega arith))) ∙ get_or-take at d i 0 h

-- and what was written is there: place by place
pub written_at : (d : List ℕ) (at : ℕ) (xs : List ℕ) → at + length xs ≤ length d → (j : ℕ) → j < length xs → get_or (written d at xs) (at + j) 0 ≡ get_or xs j 0
unfolding written
written_at d at xs fits j h =
    ap (λ (k : ℕ). get_or (take at d ++ (xs ++ drop (at + length xs) d)) (k + j) 0) (sym (length-take-le at d (omega arith)))
    ∙ get_or-append-add (take at d) (xs ++ drop (at + length xs) d) j 0
    ∙ get_or-append xs (drop (at + length xs) d) 0 j h

-- behind what was before it
pub take_written : (d : List ℕ) (at : ℕ) (xs : List ℕ) → at ≤ length d → take (at + length xs) (written d at xs) ≡ take at d ++ xs
unfolding written
take_written d at xs h =
    ap (take (at + length xs)) (sym (append_assoc (take at d) xs (drop (at + length xs) d)))
    ∙ take_at (take at d ++ xs) (drop (at + length xs) d) (at + length xs) (length-append (take at d) xs ∙ omega (arith, length-take-le at d h))

-- at the front of an output
pub front : (d xs : List ℕ) (n : ℕ) → length xs ≡ n → take n (written d 0 xs) ≡ xs
unfolding written
front d xs n l = take_at xs (drop (0 + length xs) d) n l
