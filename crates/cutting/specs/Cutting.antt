-- A file of records one behind the other, cut as its bytes come in. What kind of records is one function: what the bytes of a record begun
-- say. Assumes nothing.
use Rattle.std.specs.Prelude.{ℕ, List, [], ◌∷◌, ◌++◌}
use Rattle.cutting.specs.Sign.{Sign, More, Whole, Wrong}

-- the whole records, the bytes behind them, and what they say: more, or refused
pub record Cut : Type 0 where
  pub records : List (List ℕ)
  pub rest : List ℕ
  pub sign : Sign

abbrev pub waiting : List ℕ → Cut
waiting h = record { records = []; rest = h; sign = More }

abbrev pub joined : List (List ℕ) → Cut → Cut
joined rs c = record { records = rs ++ c.records; rest = c.rest; sign = c.sign }

-- by what the bytes g say: go on with them, or they are a record and the next begins, or this is the end
abbrev pub by : Sign → List ℕ → Cut → Cut → Cut
by More g on next = on
by Whole g on next = joined (g ∷ []) next
by (Wrong n) g on next = record { records = []; rest = g; sign = Wrong n }

-- bytes h of a record begun, and the bytes behind them
unfoldable pub cut_from : (List ℕ → Sign) → List ℕ → List ℕ → Cut
cut_from says h [] = waiting h
cut_from says h (x ∷ s) = by (says (h ++ (x ∷ []))) (h ++ (x ∷ [])) (cut_from says (h ++ (x ∷ [])) s) (cut_from says [] s)

-- a whole file
unfoldable pub cut_of : (List ℕ → Sign) → List ℕ → Cut
cut_of says file = cut_from says [] file

-- ---- the same in blocks

-- where all was well, what the block adds; once refused nothing changes
abbrev pub unless : Sign → Cut → Cut → Cut
unless More on c = on
unless Whole on c = c
unless (Wrong n) on c = c

unfoldable pub feed : (List ℕ → Sign) → Cut → List ℕ → Cut
feed says c block = unless c.sign (joined c.records (cut_from says c.rest block)) c

-- bytes one behind the other: of blocks, or of records
unfoldable pub all_of : List (List ℕ) → List ℕ
all_of [] = []
all_of (b ∷ bs) = b ++ all_of bs

unfoldable pub feed_all : (List ℕ → Sign) → Cut → List (List ℕ) → Cut
feed_all says c [] = c
feed_all says c (b ∷ bs) = feed_all says (feed says c b) bs

-- ---- the end of the file: number and place, of records that begin at an offset

abbrev pub end_number : Sign → List ℕ → ℕ
end_number More [] = 0
end_number More (x ∷ rest) = 2
end_number Whole rest = 2
end_number (Wrong n) rest = n

abbrev pub end_place : Sign → List ℕ → ℕ → ℕ
end_place More [] at = 0
end_place More (x ∷ rest) at = at
end_place Whole rest at = at
end_place (Wrong n) rest at = 0
