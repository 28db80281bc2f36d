-- A null packet carries no byte: it may only drop the open unit of its id, by its index. Assumes nothing.
use Prim.Native.Nat.{ℕ, ◌+◌}
use mathlib.Core.Path.{◌≡◌, refl, sym, ap, ◌∙◌}
use mathlib.Core.Bool.{Bool, true, false, ◌&&◌, true≢false}
use native.Mathlib.Omega.{arith}
use lib.ListN.{length}
use Rattle.laws.specs.Pick.{pick}
use Rattle.laws.specs.Sum.{sum}
use Rattle.receiver.specs.declared.Link.{Link}
use Rattle.receiver.specs.declared.Receiver.{Receiver}
use Rattle.receiver.specs.Answer.{Told}
use Rattle.receiver.specs.Link.{kept, null_of, joins, adds, completes, Fate, skipped, fate_of}
use Rattle.receiver.specs.Receiver.{link_of, base_in, answer_by, answer_in, taken_in}
use Rattle.receiver.specs.Bytes.{open_of, dropped_by, gone_of, dropped_bytes}
use Rattle.receiver.specs.Dropped.{dropped_in, told_in}
use Rattle.receiver.specs.Skipped.{skipped_in, skipped_for}
use Rattle.receiver.specs.Run.{Input}
use Rattle.receiver.proofs.Balance.{null_none, skipping}
use Rattle.balance.specs.History.{says_at, accepted_at, useful_at, length_by, delivered_at, dropped_at, skipped_at}
use Rattle.balance.specs.Balance.{is_null, Nulls}
use Rattle.balance.proofs.Steps.{step_taken}
use Rattle.balance.proofs.Sums.{none, step_sums}

null_fate : (l : Link) (i : ℕ) (f t : Bool) (n : ℕ) → null_of f t n ≡ true → fate_of l i f t n ≡ skipped
unfolding fate_of completes adds joins
null_fate l i f t n e = rw e

-- where no unit is open, or it outlives the index, nothing is dropped
null_keeps : (l : Link) (i : ℕ) (f t : Bool) (n : ℕ) → null_of f t n ≡ true → (l.begun ≡ true → kept l i ≡ true) → dropped_bytes l i f t n ≡ 0
unfolding dropped_bytes gone_of dropped_by open_of
null_keeps l i f t n e o = rw (null_fate l i f t n e, e) (go (kept l i) l.begun o)
  where
    go : (k b : Bool) → (b ≡ true → k ≡ true) → pick (k && true) 0 (pick b l.len 0) + 0 ≡ 0
    go true b o = refl
    go false false o = refl
    go false true o = absurd (true≢false (sym (o refl)))

module _ (ids : ℕ → Bool) (r : Receiver) (g : Input) (a : accepted_at r g ≡ true) (z : is_null (says_at g) ≡ true) where
  null_useful : useful_at ids r g ≡ 0
  unfolding useful_at
  null_useful = rw (null_none (says_at g).chunk.first (says_at g).chunk.last (length (says_at g).chunk.body) z) (none (accepted_at r g && ids (says_at g).id))

  null_delivered : delivered_at ids r g ≡ 0
  unfolding delivered_at length_by told_in taken_in answer_in answer_by
  null_delivered =
      let k = says_at g in
      ap (λ (t : Told). sum (length_by ids t.answer)) (step_taken r g a)
      ∙ ap (λ (f : Fate). sum (length_by ids (answer_by f k.id (base_in r k + length k.chunk.body))))
      (null_fate (link_of r k.id) k.index k.chunk.first k.chunk.last (length k.chunk.body) z)

  null_skipped : skipped_at ids r g ≡ 0
  unfolding skipped_at skipped_for skipped_in
  null_skipped =
      let k = says_at g in
      rw (a, skipping (link_of r k.id) k.index k.chunk.first k.chunk.last (length k.chunk.body), z) (none (ids k.id))

  null_drops : ((link_of r (says_at g).id).begun ≡ true → kept (link_of r (says_at g).id) (says_at g).index ≡ true) → dropped_at ids r g ≡ 0
  unfolding dropped_at told_in dropped_in
  null_drops k =
      rw (step_taken r g a, null_keeps (link_of r (says_at g).id) (says_at g).index (says_at g).chunk.first (says_at g).chunk.last (length (says_at g).chunk.body) z k)
      (none (ids (says_at g).id))

pub nulls : Nulls
nulls ids r g four a z =
    let u = null_useful ids r g a z in
    let d = null_delivered ids r g a z in
    let s = null_skipped ids r g a z in
    record { useful = u; delivered = d; skipped = s; moved = omega (arith, step_sums ids r g four, u, d, s); none = null_drops ids r g a z }
