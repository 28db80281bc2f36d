-- The spares of one frame, of two queues i and j (02, E11): when both could take each of them, and which of the two the turn serves first.
-- Assumes nothing.
use Rattle.std.specs.Prelude.{ℕ, ◌+◌, ◌-◌, ◌%◌, ◌<◌, ◌≡◌, ltb, length}
use Rattle.laws.specs.Pick.{pick}
use Rattle.hand.specs.Settings.{at}
use Rattle.hand.specs.Hand.{taker, spread, count_of, room_of, cap_of, shares_met, spare_ids, plan_for}
use Rattle.hand.specs.declared.Three.{Three}
use Rattle.hand.specs.declared.Plan.{Plan}
use Rattle.hand.specs.declared.Settings.{Settings}

-- what is handed out after m spares
unfoldable pub plan_at : Settings → Three → ℕ → ℕ → Plan
plan_at s waiting turn m = spread m (cap_of s waiting) (shares_met s.share waiting turn)

-- queue i is then below what waits in it and below its ceiling
abbrev pub Below : Settings → Three → ℕ → ℕ → ℕ → Type 0
Below s waiting turn m i = at (plan_at s waiting turn m).packets i < at (cap_of s waiting) i

-- each time a spare is handed out, to whichever queue, both i and j are still below just before
abbrev pub BothBelow : Settings → Three → ℕ → ℕ → ℕ → Type 0
BothBelow s waiting turn i j =
    (m : ℕ) → m < room_of s waiting → 0 < length (taker (cap_of s waiting) (plan_at s waiting turn m)) → Below s waiting turn m i × Below s waiting turn m j

-- the steps from turn t to queue i
unfoldable pub steps_to : ℕ → ℕ → ℕ
steps_to t i = (i + 3 - t % 3) % 3

-- 1 where from turn t on queue i comes before queue j, else 0
unfoldable pub ahead : ℕ → ℕ → ℕ → ℕ
ahead i j t = pick (ltb (steps_to t i) (steps_to t j)) 1 0

-- the spares of i and j are as many, but for who of them was first before and is first after
abbrev pub Alternate : Settings → Three → ℕ → ℕ → ℕ → Type 0
Alternate s waiting turn i j =
    count_of i (spare_ids s waiting turn) + ahead i j (plan_for s waiting turn).turn ≡ count_of j (spare_ids s waiting turn) + ahead i j turn
