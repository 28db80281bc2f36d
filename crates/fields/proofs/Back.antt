-- A number that was written is read back, for every number of bytes. Assumes nothing.
use mathlib.Core.Path.{◌≡◌, ap, ◌∙◌}
use mathlib.Core.List.{List, ◌++◌}
use Prim.Native.Nat.{ℕ, ◌+◌, ◌*◌, ◌^◌, ◌≤◌, ◌<◌}
use native.Mathlib.Omega.{arith}
use lib.ListN.{length, take, drop}
use lib.Seq.{take_at, drop_at, length-take-le}
use Rattle.laws.specs.Big.{bytes_of, big_of, number_at}
use Rattle.laws.specs.Written.{written}
use Rattle.laws.proofs.Big.{big_back, bytes_length}
use Rattle.laws.proofs.Written.{written_length}
use Rattle.fields.specs.Numbers.{put_at}
use Rattle.fields.proofs.Reading.{number_in}
use Rattle.fields.proofs.Writing.{put_in}

module _ (n : ℕ) (d : List ℕ) (at v : ℕ) (fits : at + n ≤ length d) (small : v < 2 ^ (8 * n)) where
  pub read_back : number_at n (written d at (bytes_of n v)) at ≡ v
  unfolding written
  read_back =
      let x = bytes_of n v in
      let l : length x ≡ n = bytes_length n v in
      let k : length (written d at x) ≡ length d = written_length d at x (omega arith) in
      number_in n (written d at x) at (omega arith)
      ∙ ap (λ (t : List ℕ). big_of (take n t)) (drop_at (take at d) (x ++ drop (at + length x) d) at (length-take-le at d (omega arith)))
      ∙ ap big_of (take_at x (drop (at + length x) d) n l)
      ∙ big_back n v small

  -- the same in the words of the calls' contracts
  pub put_back : number_at n (put_at n d at v) at ≡ v
  put_back = ap (λ (l : List ℕ). number_at n l at) (put_in n d at v fits) ∙ read_back
