-- E11 of 02, the balance: "from a fresh receiver, after any sequence of packets, the useful bytes of the accepted packets equal those of delivered
-- units, of dropped units as E5 counts them, of the open ones, and of skipped packets; each of the four is added up from the history of packets,
-- not from a stored sum. Null packets carry none." Assumes nothing.
use Rattle.std.specs.Prelude.{ℕ, ◌+◌, ◌<◌, ◌≡◌, List, map, Bool, true, eqb, length}
use Rattle.laws.specs.Sum.{sum}
use Rattle.packet.specs.Packet.{Packet}
use Rattle.receiver.specs.declared.Receiver.{Receiver}
use Rattle.receiver.specs.Link.{kept, null_of}
use Rattle.receiver.specs.Receiver.{link_of, fresh}
use Rattle.receiver.specs.Bytes.{open_of}
use Rattle.receiver.specs.Run.{Input, after_all}
use Rattle.balance.specs.History.{says_at, accepted_at, told_at, useful_at, delivered_at, dropped_at, skipped_at, sum_of, taken_of, unit_lengths, units_in, lost_in, open_in, missed_in, open_over, open_held}

-- all ids; of one alone, `eqb id`
abbrev pub all_ids : ℕ → Bool
all_ids id = true

-- of any steps from the fresh record
pub record Balance (gs : List Input) : Type 0 where
  -- the sums, of the ids that a test names: of all together, of each, of any of them
  pub bytes : (ids : ℕ → Bool)
      → sum_of (useful_at ids) gs fresh
      ≡ sum_of (delivered_at ids) gs fresh + sum_of (dropped_at ids) gs fresh + open_over ids gs fresh + sum_of (skipped_at ids) gs fresh
  -- the same of each id with the bytes themselves, put together from its packets and nothing else: of the units, of what is lost, of the
  -- open unit, of what no unit has
  pub gathered : (id : ℕ) → id < 4
      → let ks = taken_of id gs fresh in
      sum_of (useful_at (eqb id)) gs fresh ≡ sum (map length (units_in ks)) + length (lost_in ks) + length (open_in ks) + length (missed_in ks)
  -- the lengths in the answers are those of the units put together
  pub units : (id : ℕ) → map length (units_in (taken_of id gs fresh)) ≡ unit_lengths id gs fresh
  -- the bytes reported as dropped are as many as those lost
  pub lost : (id : ℕ) → length (lost_in (taken_of id gs fresh)) ≡ sum_of (dropped_at (eqb id)) gs fresh
  -- and those skipped
  pub missed : (id : ℕ) → length (missed_in (taken_of id gs fresh)) ≡ sum_of (skipped_at (eqb id)) gs fresh
  -- the record's length is that of the open unit put together; and none is, where it has none open
  pub held : (id : ℕ) → length (open_in (taken_of id gs fresh)) ≡ open_of (link_of (after_all gs fresh) id)

-- from any record of four ids: the bytes that it holds open count on both sides. One that is refused with 17 refuses every packet
abbrev pub FromAny : Type 0
FromAny =
    (ids : ℕ → Bool) (gs : List Input) (r : Receiver) → length r.link ≡ 4
    → sum_of (useful_at ids) gs r + open_held ids r
    ≡ sum_of (delivered_at ids) gs r + sum_of (dropped_at ids) gs r + open_held ids (after_all gs r) + sum_of (skipped_at ids) gs r

-- a null packet
abbrev pub is_null : Packet → Bool
is_null k = null_of k.chunk.first k.chunk.last (length k.chunk.body)

-- carries no byte; all that it may do is to drop the open unit of its id, by its index
pub record NullIdle (ids : ℕ → Bool) (r : Receiver) (g : Input) : Type 0 where
  pub useful : useful_at ids r g ≡ 0
  pub delivered : delivered_at ids r g ≡ 0
  pub skipped : skipped_at ids r g ≡ 0
  pub moved : dropped_at ids r g + open_held ids (told_at r g).next ≡ open_held ids r
  -- nothing, where no unit is open or the open one outlives the index
  pub none : ((link_of r (says_at g).id).begun ≡ true → kept (link_of r (says_at g).id) (says_at g).index ≡ true) → dropped_at ids r g ≡ 0

-- accepted, at any record of four ids
abbrev pub Nulls : Type 0
Nulls = (ids : ℕ → Bool) (r : Receiver) (g : Input) → length r.link ≡ 4 → accepted_at r g ≡ true → is_null (says_at g) ≡ true → NullIdle ids r g
