-- Lists of packets: those of an id, their indexes, what they carry. Assumes nothing.
use Prim.Native.Nat.{ℕ, zero, suc, ◌+◌, ◌%◌}
use mathlib.Core.Path.{◌≡◌, refl, sym, ap, ◌∙◌}
use mathlib.Core.List.{List, [], ◌∷◌, ◌++◌, append_assoc}
use mathlib.Core.Bool.{Bool, true, false}
use native.Mathlib.Omega.{arith}
use lib.Dec.{eqb}
use lib.ListN.{length}
use Rattle.laws.specs.Pick.{pick}
use Rattle.packet.specs.Packet.{Chunk, Packet, decode}
use Rattle.packet.specs.Calls.{check_for}
use Rattle.demand.specs.Bytes.{readable, own, of_id, saying, index_after, numbered}

pub own_append : (id : ℕ) (ks js : List Packet) → own id (ks ++ js) ≡ own id ks ++ own id js
unfolding own
own_append id [] js = refl
own_append id (k ∷ ks) js =
    ap (λ (l : List Packet). pick (eqb id k.id) (k ∷ []) [] ++ l) (own_append id ks js)
    ∙ sym (append_assoc (pick (eqb id k.id) (k ∷ []) []) (own id ks) (own id js))

pub readable_append : (p : ℕ) (ss ts : List (List ℕ)) → readable p (ss ++ ts) ≡ readable p ss ++ readable p ts
unfolding readable
readable_append p [] ts = refl
readable_append p (s ∷ ss) ts =
    ap (λ (l : List Packet). pick (eqb (check_for p s) 0) (decode p s ∷ []) [] ++ l) (readable_append p ss ts)
    ∙ sym (append_assoc (pick (eqb (check_for p s) 0) (decode p s ∷ []) []) (readable p ss) (readable p ts))

pub of_append : (p id : ℕ) (ss ts : List (List ℕ)) → of_id p id (ss ++ ts) ≡ of_id p id ss ++ of_id p id ts
of_append p id ss ts = ap (own id) (readable_append p ss ts) ∙ own_append id (readable p ss) (readable p ts)

-- ---- indexes
pub index_next : (n i : ℕ) → index_after n ((i + 1) % 8) ≡ index_after (suc n) i
unfolding index_after
index_next zero i = refl
index_next (suc n) i = ap (λ (m : ℕ). (m + 1) % 8) (index_next n i)

pub index_add : (n m i : ℕ) → index_after (n + m) i ≡ index_after m (index_after n i)
unfolding index_after
index_add n zero i = let z : n + 0 ≡ n = omega arith in ap (λ (k : ℕ). index_after k i) z
index_add n (suc m) i = let z : n + suc m ≡ suc (n + m) = omega arith in ap (λ (k : ℕ). index_after k i) z ∙ ap (λ (k : ℕ). (k + 1) % 8) (index_add n m i)

-- ---- packets of one id, numbered
pub numbered_append : (id i : ℕ) (cs ds : List Chunk) → numbered id i (cs ++ ds) ≡ numbered id i cs ++ numbered id (index_after (length cs) i) ds
unfolding numbered index_after
numbered_append id i [] ds = refl
numbered_append id i (c ∷ cs) ds =
    ap (λ (l : List Packet). record { id = id; index = i; chunk = c } ∷ l)
    (numbered_append id ((i + 1) % 8) cs ds ∙ ap (λ (n : ℕ). numbered id ((i + 1) % 8) cs ++ numbered id n ds) (index_next (length cs) i))

pub numbered_length : (id i : ℕ) (cs : List Chunk) → length (numbered id i cs) ≡ length cs
unfolding numbered
numbered_length id i [] = refl
numbered_length id i (c ∷ cs) = ap suc (numbered_length id ((i + 1) % 8) cs)

pub numbered_saying : (id i : ℕ) (cs : List Chunk) → saying (numbered id i cs) ≡ cs
unfolding numbered saying
numbered_saying id i [] = refl
numbered_saying id i (c ∷ cs) = ap (λ (l : List Chunk). c ∷ l) (numbered_saying id ((i + 1) % 8) cs)

pub own_numbered : (id j i : ℕ) (cs : List Chunk) (b : Bool) → eqb id j ≡ b → own id (numbered j i cs) ≡ pick b (numbered j i cs) []
unfolding own numbered
own_numbered id j i [] true e = refl
own_numbered id j i [] false e = refl
own_numbered id j i (c ∷ cs) true e = rw e (ap (λ (l : List Packet). record { id = j; index = i; chunk = c } ∷ l) (own_numbered id j ((i + 1) % 8) cs true e))
own_numbered id j i (c ∷ cs) false e = rw e (own_numbered id j ((i + 1) % 8) cs false e)
