-- The number written at an offset: where it has room and where it has none, and written byte by byte, the last byte first.
-- Assumes nothing.
use mathlib.Core.Bool.{false}
use mathlib.Core.Path.{◌≡◌, sym, ap, ap₂, ◌∙◌}
use mathlib.Core.List.{List, [], ◌∷◌, ◌++◌, append_assoc}
use Prim.Native.Nat.{ℕ, suc, ◌+◌, ◌/◌, ◌%◌, ◌≤◌, ◌<◌}
use native.Mathlib.Nat.{div-one}
use native.Mathlib.Omega.{arith}
use borrow.Author.Tests.{le-leb, lt-leb}
use lib.Dec.{leb}
use lib.ListN.{length, take, drop, set, length-set, length-append}
use lib.Seq.{take-set-le, set_split, drop_at, length-take-le}
use Rattle.laws.specs.Big.{bytes_of}
use Rattle.laws.specs.Written.{written}
use Rattle.laws.proofs.Big.{bytes_append, bytes_length}
use Rattle.laws.proofs.Written.{written_none}
use Rattle.fields.specs.Numbers.{put_at}

module _ (n : ℕ) (d : List ℕ) (at v : ℕ) where
  pub put_in : at + n ≤ length d → put_at n d at v ≡ written d at (bytes_of n v)
  unfolding put_at
  put_in h = simp (le-leb (at + n) (length d) h)

  pub put_out : length d < at + n → put_at n d at v ≡ d
  unfolding put_at
  put_out h = simp (lt-leb (at + n) (length d) h)

-- ---- byte by byte

pub put_none : (d : List ℕ) (at v : ℕ) → at ≤ length d → put_at 0 d at v ≡ d
unfolding bytes_of
put_none d at v h = put_in 0 d at v (omega arith) ∙ written_none d at

-- a byte stored first, and then what stands before it
pub written_last : (d : List ℕ) (at : ℕ) (xs : List ℕ) (x : ℕ) → at + length xs < length d
    → written (set d (at + length xs) x) at xs ≡ written d at (xs ++ (x ∷ []))
unfolding written
written_last d at xs x h =
    let k = at + length xs in
    let before : take at (set d k x) ≡ take at d = take-set-le at d k x (omega arith) in
    let behind : drop k (set d k x) ≡ x ∷ drop (suc k) d =
    ap (drop k) (set_split d k x h) ∙ drop_at (take k d) (x ∷ drop (suc k) d) k (length-take-le k d (omega arith)) in
    let n : suc k ≡ at + length (xs ++ (x ∷ [])) = omega (arith, length-append xs (x ∷ [])) in
    ap₂ (λ (a b : List ℕ). a ++ (xs ++ b)) before behind
    ∙ ap (λ (l : List ℕ). take at d ++ l) (sym (append_assoc xs (x ∷ []) (drop (suc k) d)))
    ∙ ap (λ (j : ℕ). take at d ++ ((xs ++ (x ∷ [])) ++ drop j d)) n

pub put_last : (n : ℕ) (d : List ℕ) (at v : ℕ) → at + (n + 1) ≤ length d
    → put_at n (set d (at + n) (v % 256)) at (v / 256) ≡ put_at (n + 1) d at v
unfolding bytes_of
put_last n d at v h =
    let x = bytes_of n (v / 256) in
    let l : length x ≡ n = bytes_length n (v / 256) in
    put_in n (set d (at + n) (v % 256)) at (v / 256) (rw length-set (omega arith))
    ∙ ap (λ (k : ℕ). written (set d (at + k) (v % 256)) at x) (sym l)
    ∙ written_last d at x (v % 256) (omega arith)
    ∙ ap (λ (b : ℕ). written d at (x ++ (b % 256 ∷ []))) (sym (div-one v))
    ∙ ap (written d at) (sym (bytes_append n 1 v))
    ∙ sym (put_in (n + 1) d at v h)

-- the answer, and what is left, where the number has no room
pub write_out : (n : ℕ) (d : List ℕ) (at v : ℕ) → length d < at + n → (false ≡ leb (at + n) (length d)) × (d ≡ put_at n d at v)
write_out n d at v h = (sym (lt-leb (at + n) (length d) h), sym (put_out n d at v h))
