-- The settings of a shared stream (01, "Packets, queues and receiver"): p from 1 to 255, N packets per frame from 1 with N(p+3) at
-- most 8,190; for ids 0, 1, 2 a share s and a ceiling m, s ≤ m, 1 ≤ m ≤ N, shares summing to at most N. Assumes nothing.
use Rattle.std.specs.Prelude.{ℕ, ◌+◌, ◌*◌, ◌≤◌, List, [], ◌∷◌, Bool, ◌||◌, ltb, eqb}
use Rattle.laws.specs.Pick.{pick}
use Rattle.laws.specs.Refuse.{Test, test, refused_with}
use Rattle.hand.specs.declared.Three.{Three}
use Rattle.hand.specs.declared.Settings.{Settings}

-- the number of queue i
abbrev pub at : Three → ℕ → ℕ
at t i = pick (eqb i 0) t.a (pick (eqb i 1) t.b t.c)

abbrev pub total : Three → ℕ
total t = t.a + t.b + t.c

-- a share and a ceiling outside the limits
unfoldable pub unfit : ℕ → ℕ → ℕ → Bool
unfit n s m = ltb m s || eqb m 0 || ltb n m

unfoldable pub settings_tests : Settings → List Test
settings_tests s =
    test (eqb s.p 0) 13 ∷ test (ltb 255 s.p) 13 ∷ test (eqb s.n 0) 13 ∷ test (ltb 8190 (s.n * (s.p + 3))) 13
    ∷ test (unfit s.n s.share.a s.ceiling.a) 13 ∷ test (unfit s.n s.share.b s.ceiling.b) 13
    ∷ test (unfit s.n s.share.c s.ceiling.c) 13 ∷ test (ltb s.n (total s.share)) 13 ∷ []

unfoldable pub settings_for : Settings → ℕ
settings_for s = refused_with (settings_tests s)

-- the same, as a record of what 01 asks: `allowed` and `allowed_back` of proofs/Allowed show that the two agree
pub record Limits (n s m : ℕ) : Type 0 where
  pub below : s ≤ m
  pub one : 1 ≤ m
  pub most : m ≤ n

pub record Allowed (s : Settings) : Type 0 where
  pub low : 1 ≤ s.p
  pub high : s.p ≤ 255
  pub some : 1 ≤ s.n
  pub room : s.n * (s.p + 3) ≤ 8190
  pub a : Limits s.n s.share.a s.ceiling.a
  pub b : Limits s.n s.share.b s.ceiling.b
  pub c : Limits s.n s.share.c s.ceiling.c
  pub shares : total s.share ≤ s.n
