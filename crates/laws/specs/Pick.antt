-- The choice by a test, for every type: all definitions of this repository choose by it.
-- Assumes nothing.
use Rattle.std.specs.Prelude.{Bool, true, false}

-- a where the test holds, else b
abbrev pub pick : {A : Type 0} → Bool → A → A → A
pick true a b = a
pick false a b = b
