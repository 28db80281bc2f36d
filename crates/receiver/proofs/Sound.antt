-- From a fresh record no sequence of steps meets 17 (01: "no such sequence meets 17"), whatever is handed in. Assumes nothing.
use Prim.Native.Nat.{ℕ, zero, suc, ◌+◌, ◌%◌, ◌≤◌, ◌<◌}
use mathlib.Core.Path.{◌≡◌, refl, sym, ap, ◌∙◌}
use mathlib.Core.List.{List, [], ◌∷◌}
use mathlib.Core.Bool.{Bool, true, false, not, ◌&&◌}
use native.Mathlib.Omega.{arith}
use borrow.Author.Tests.{le-ltb, ltb-false, eqb-true, eqb-false}
use lib.Dec.{ltb, eqb}
use lib.ListN.{length, get_or, set, length-set}
use lib.Seq.{get_or-set_same, get_or-set_other}
use Rattle.laws.specs.Pick.{pick}
use Rattle.laws.proofs.Flags.{and_l, or_false}
use Rattle.packet.specs.Packet.{Packet, decode}
use Rattle.packet.specs.Calls.{wrong_word, wrong_count}
use Rattle.receiver.specs.declared.Link.{Link}
use Rattle.receiver.specs.declared.Receiver.{Receiver}
use Rattle.receiver.specs.Answer.{Refused}
use Rattle.receiver.specs.Link.{kept, null_of, base_of, adds, link_with, link_after, broken_link, no_link}
use Rattle.receiver.specs.Receiver.{link_of, link_in, fresh, broken, taken_in, step_tests, step_number, step_for}
use Rattle.receiver.specs.Run.{Input, after_all}
use Rattle.receiver.proofs.Links.{adds_fit}

-- ---- one id
with_fine : (i n : ℕ) (b : Bool) → (b ≡ true → n ≤ 4096) → broken_link (link_with i b n) ≡ false
unfolding broken_link link_with
with_fine i n true h = simp (le-ltb 7 ((i + 1) % 8) (omega arith), le-ltb 4096 n (h refl))
with_fine i n false h = simp (le-ltb 7 ((i + 1) % 8) (omega arith))

pub len_in : (l : Link) → broken_link l ≡ false → l.begun ≡ true → l.len ≤ 4096
unfolding broken_link
len_in l h b =
    ltb-false 4096 l.len (sym (ap (λ (x : Bool). x && ltb 4096 l.len) b) ∙ (or_false (ltb 7 l.index) (l.begun && ltb 4096 l.len) h).1)

kept_begun : (l : Link) (i : ℕ) → kept l i ≡ true → l.begun ≡ true
unfolding kept
kept_begun l i e = and_l l.begun (pick l.heard (eqb i l.index) true) e

link_fine : (l : Link) (i : ℕ) (f t : Bool) (n : ℕ) → broken_link l ≡ false → broken_link (link_after l i f t n) ≡ false
unfolding link_after
link_fine l i f t n h = go (null_of f t n)
  where
    go : (z : Bool) → broken_link (pick z (link_with i (kept l i) l.len) (link_with i (adds l i f t n && not t) (base_of l f + n))) ≡ false
    go true = with_fine i l.len (kept l i) (λ e. len_in l h (kept_begun l i e))
    go false = with_fine i (base_of l f + n) (adds l i f t n && not t) (λ e. adds_fit l i f t n (and_l (adds l i f t n) (not t) e))

-- ---- the record
pub record Fine (r : Receiver) : Type 0 where
  pub four : length r.link ≡ 4
  pub links : (j : ℕ) → broken_link (link_of r j) ≡ false

pub fine_broken : (r : Receiver) → Fine r → broken r ≡ false
unfolding broken
fine_broken r k = simp (k.links 0, k.links 1, k.links 2, k.links 3)

pub none_fine : broken_link no_link ≡ false
unfolding broken_link
none_fine = refl

pub fresh_links : (j : ℕ) → link_of fresh j ≡ no_link
unfolding fresh
fresh_links zero = refl
fresh_links (suc zero) = refl
fresh_links (suc (suc zero)) = refl
fresh_links (suc (suc (suc zero))) = refl
fresh_links (suc (suc (suc (suc j)))) = refl

pub fresh_fine : Fine fresh
unfolding fresh
fresh_fine = record { four = refl; links = λ j. rw (fresh_links j) none_fine }

pub id_in : (p : ℕ) (s : List ℕ) → (decode p s).id < 4
unfolding decode
id_in p s = omega arith

taken_fine : (r : Receiver) (k : Packet) → k.id < 4 → Fine r → Fine (taken_in r k).next
unfolding taken_in
taken_fine r k h o = record { four = length-set r.link k.id (link_in r k) ∙ o.four; links = λ j. go j (eqb j k.id) refl }
  where
    go : (j : ℕ) (b : Bool) → eqb j k.id ≡ b → broken_link (get_or (set r.link k.id (link_in r k)) j no_link) ≡ false
    go j true e =
        let z : j ≡ k.id = eqb-true j k.id e in
        rw (z, get_or-set_same r.link k.id (link_in r k) no_link (omega (arith, o.four)))
        (link_fine (link_of r k.id) k.index k.chunk.first k.chunk.last (length k.chunk.body) (o.links k.id))
    go j false e = rw (get_or-set_other r.link k.id j (link_in r k) no_link (eqb-false j k.id e)) (o.links j)

pub step_fine : (p : ℕ) (r : Receiver) (s : List ℕ) (room : ℕ) → Fine r → Fine (step_for p r s room).next
unfolding step_for
step_fine p r s room o = go (eqb (step_number p r s room) 0)
  where
    go : (b : Bool) → Fine (pick b (taken_in r (decode p s)) (record { answer = Refused (step_number p r s room); next = r })).next
    go true = taken_fine r (decode p s) (id_in p s) o
    go false = o

pub all_fine : (gs : List Input) (r : Receiver) → Fine r → Fine (after_all gs r)
unfolding after_all
all_fine [] r o = o
all_fine (g ∷ gs) r o = all_fine gs (step_for g.p r g.packet g.room).next (step_fine g.p r g.packet g.room o)

-- ---- the number
others : (a b d e w v : Bool) → ◌≡◌ {A = ℕ} (pick a 13 (pick b 13 (pick d 1 (pick e 1 (pick w 16 (pick v 16 0)))))) 17 → ⊥
others true b d e w v h = omega arith
others false true d e w v h = omega arith
others false false true e w v h = omega arith
others false false false true w v h = omega arith
others false false false false true v h = omega arith
others false false false false false true h = omega arith
others false false false false false false h = omega arith

not_17 : (p : ℕ) (r : Receiver) (s : List ℕ) (room : ℕ) → broken r ≡ false → step_number p r s room ≡ 17 → ⊥
unfolding step_number step_tests
not_17 p r s room h e =
    others (eqb p 0) (ltb 255 p) (not (eqb room 16384)) (not (eqb (length s) (p + 3))) (wrong_word p s) (wrong_count p s)
    (sym (ap (λ (b : Bool). pick (eqb p 0) 13 (pick (ltb 255 p) 13 (pick b 17 (pick (not (eqb room 16384)) 1 (pick (not (eqb (length s) (p + 3))) 1 (pick (wrong_word p s) 16 (pick (wrong_count p s) 16 0))))))) h) ∙ e)

-- from a fresh record, after any steps: the next is not refused with 17
pub never_17 : (gs : List Input) (p : ℕ) (s : List ℕ) (room : ℕ) → step_number p (after_all gs fresh) s room ≡ 17 → ⊥
never_17 gs p s room = not_17 p (after_all gs fresh) s room (fine_broken (after_all gs fresh) (all_fine gs fresh fresh_fine))
