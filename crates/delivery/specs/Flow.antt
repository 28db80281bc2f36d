-- How the receiver's line of an id stands to the sender's queue of it: what the proofs keep from packet to packet. Assumes nothing.
use Rattle.std.specs.Prelude.{ℕ, ◌≡◌, List, [], Bool, true, false, length}
use Rattle.receiver.specs.Line.{Line}
use Rattle.demand.specs.Stream.{AllSome, AllFit}
use Rattle.delivery.specs.Whole.{wholes}

-- the line is in step with a queue that has us left, the first of them begun or not, and whose next packet has index i
pub record Linked (us : List (List ℕ)) (b : Bool) (i : ℕ) (l : Line) : Type 0 where
  pub index : l.link.heard ≡ true → l.link.index ≡ i
  pub begun : l.link.begun ≡ b
  pub size : l.link.len ≡ length l.bytes
  pub none : b ≡ false → l.bytes ≡ []
  pub idle : us ≡ [] → b ≡ false
  pub some : AllSome us
  pub fit : AllFit (wholes l us)
