-- The sums over any history of steps: of the ids that count, what is useful, with what is open before, is delivered, dropped, open behind it and
-- skipped. Assumes nothing.
use Prim.Native.Nat.{ℕ, zero, suc, ◌+◌, ◌<◌}
use mathlib.Core.Path.{◌≡◌, refl, sym, ◌∙◌}
use mathlib.Core.List.{List, [], ◌∷◌}
use mathlib.Core.Bool.{Bool, true, false, ◌&&◌}
use native.Mathlib.Omega.{arith}
use lib.ListN.{length, get_or, set, length-set}
use Rattle.laws.specs.Pick.{pick}
use Rattle.laws.specs.Sum.{sum}
use Rattle.packet.specs.Packet.{Packet}
use Rattle.receiver.specs.declared.Link.{Link}
use Rattle.receiver.specs.declared.Receiver.{Receiver}
use Rattle.receiver.specs.Answer.{Told, Refused}
use Rattle.receiver.specs.Link.{Fate, delivered, added, dropped, skipped, no_link}
use Rattle.receiver.specs.Receiver.{link_of, link_in, fate_in, base_in, answer_by, answer_in, taken_in}
use Rattle.receiver.specs.Bytes.{open_of, delivered_by, delivered_bytes}
use Rattle.receiver.specs.Dropped.{dropped_in, told_in, told_for}
use Rattle.receiver.specs.Skipped.{skipped_in, skipped_for}
use Rattle.receiver.specs.Run.{Input, after_all}
use Rattle.receiver.proofs.Balance.{balance}
use Rattle.receiver.proofs.Sound.{id_in}
use Rattle.balance.specs.History.{says_at, accepted_at, told_at, useful_at, length_by, delivered_at, dropped_at, skipped_at, sum_of, of_four, open_held}
use Rattle.balance.specs.Balance.{FromAny}
use Rattle.balance.proofs.Steps.{step_taken, step_refused}

pub none : (b : Bool) → ◌≡◌ {A = ℕ} (pick b 0 0) 0
none true = refl
none false = refl

-- ---- an accepted packet
delivered_length : (ids : ℕ → Bool) (f : Fate) (id n : ℕ) → sum (length_by ids (answer_by f id n)) ≡ pick (ids id) (delivered_by f n) 0
unfolding length_by answer_by delivered_by
delivered_length ids delivered id n = go (ids id)
  where
    go : (b : Bool) → sum (pick b (n ∷ []) []) ≡ pick b n 0
    go true = omega arith
    go false = refl
delivered_length ids added id n = sym (none (ids id))
delivered_length ids dropped id n = sym (none (ids id))
delivered_length ids skipped id n = sym (none (ids id))

-- one link of four replaced
open_set : (ids : ℕ → Bool) (l : List Link) (id : ℕ) (x : Link) → length l ≡ 4 → id < 4
    → open_held ids (record { link = set l id x }) + pick (ids id) (open_of (get_or l id no_link)) 0 ≡ open_held ids (record { link = l }) + pick (ids id) (open_of x) 0
unfolding open_held of_four
open_set ids [] id x e h = absurd (omega arith)
open_set ids (a ∷ []) id x e h = absurd (omega arith)
open_set ids (a ∷ b ∷ []) id x e h = absurd (omega arith)
open_set ids (a ∷ b ∷ c ∷ []) id x e h = absurd (omega arith)
open_set ids (a ∷ b ∷ c ∷ d ∷ m) zero x e h = omega arith
open_set ids (a ∷ b ∷ c ∷ d ∷ m) (suc zero) x e h = omega arith
open_set ids (a ∷ b ∷ c ∷ d ∷ m) (suc (suc zero)) x e h = omega arith
open_set ids (a ∷ b ∷ c ∷ d ∷ m) (suc (suc (suc zero))) x e h = omega arith
open_set ids (a ∷ b ∷ c ∷ d ∷ m) (suc (suc (suc (suc id)))) x e h = absurd (omega arith)

-- where its id counts
counts : (b : Bool) (n o d g o' s : ℕ) → n + o ≡ d + g + o' + s → pick b n 0 + pick b o 0 ≡ pick b d 0 + pick b g 0 + pick b o' 0 + pick b s 0
counts true n o d g o' s e = e
counts false n o d g o' s e = refl

module _ (ids : ℕ → Bool) (r : Receiver) (k : Packet) where
  -- the useful bytes (n), what the step gives back (t), the skipped ones (s)
  abbrev Even : ℕ → Told → ℕ → Type 0
  Even n t s = n + open_held ids r ≡ sum (length_by ids t.answer) + pick (ids k.id) t.dropped 0 + open_held ids t.next + pick (ids k.id) s 0

  taken_sums : length r.link ≡ 4 → k.id < 4 → Even (pick (ids k.id) (length k.chunk.body) 0) (told_in r k) (skipped_in r k)
  unfolding told_in taken_in answer_in dropped_in skipped_in delivered_bytes
  taken_sums h m =
      let l = link_of r k.id in
      let n = length k.chunk.body in
      omega (
        arith,
        counts (ids k.id) _ _ _ _ _ _ (balance l k.index k.chunk.first k.chunk.last n),
        open_set ids r.link k.id (link_in r k) h m,
        delivered_length ids (fate_in r k) k.id (base_in r k + n),
      )

  refused_sums : (number : ℕ) → Even 0 (record { answer = Refused number; dropped = 0; next = r }) 0
  unfolding length_by
  refused_sums number = omega (arith, none (ids k.id))

-- ---- one step, from any record of four links
pub step_sums : (ids : ℕ → Bool) (r : Receiver) (g : Input) → length r.link ≡ 4
    → useful_at ids r g + open_held ids r ≡ delivered_at ids r g + dropped_at ids r g + open_held ids (told_at r g).next + skipped_at ids r g
unfolding useful_at delivered_at dropped_at skipped_at skipped_for
step_sums ids r g h = go (accepted_at r g) refl
  where
    k : Packet
    k = says_at g

    go : (b : Bool) → accepted_at r g ≡ b → Even ids r k (pick (b && ids k.id) (length k.chunk.body) 0) (told_at r g) (pick b (skipped_in r k) 0)
    go true e = rw (step_taken r g e) (taken_sums ids r k h (id_in g.p g.packet))
    go false e = rw (step_refused r g e) (refused_sums ids r k _)

pub four_still : (r : Receiver) (g : Input) → length r.link ≡ 4 → length (told_at r g).next.link ≡ 4
unfolding taken_in told_in
four_still r g h = go (accepted_at r g) refl
  where
    go : (b : Bool) → accepted_at r g ≡ b → length (told_at r g).next.link ≡ 4
    go true e = rw (step_taken r g e) (length-set r.link (says_at g).id (link_in r (says_at g)) ∙ h)
    go false e = rw (step_refused r g e) h

-- ---- a history
pub from_any : FromAny
unfolding sum_of after_all told_for
from_any ids [] r h = omega arith
from_any ids (g ∷ gs) r h = omega (arith, step_sums ids r g h, from_any ids gs (told_at r g).next (four_still r g h))
