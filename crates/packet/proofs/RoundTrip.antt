-- B8, of the calls: a packet that `write` accepts fits, so its bytes say it. Assumes nothing.
use Prim.Native.Nat.{ℕ, ◌+◌, ◌≤◌}
use mathlib.Core.Path.{◌≡◌, refl, ap, ◌∙◌}
use mathlib.Core.List.{List}
use native.Mathlib.Omega.{arith}
use borrow.Author.Tests.{ltb-false, eqb-false}
use lib.Dec.{eqb, ltb, lit<}
use lib.ListN.{length, get_or, drop}
use lib.Seq.{take_at}
use Rattle.laws.specs.Written.{written}
use Rattle.laws.proofs.Refuse.{free}
use Rattle.packet.specs.Packet.{Packet, padded, plain_of, sealed, encode}
use Rattle.packet.specs.Calls.{head_for, read_for, useful_for, write_tests, write_number_for, write_for, out_for}
use Rattle.packet.specs.RoundTrip.{left_in, Gives, WrittenIsRead}
use Rattle.packet.proofs.Round.{Fits, flag_back, head_back, round, encode_length}

module _ (p : ℕ) (k : Packet) (out : List ℕ) (e : (write_for p k (length out)).number ≡ 0) where
  none : write_number_for p k (length out) ≡ 0
  unfolding write_for
  none = e

  fits : Fits p k
  unfolding write_number_for write_tests
  fits =
      let n = length k.chunk.body in
      let f = free (write_tests p k.id k.index n (length out)) (lit< tt, (lit< tt, (lit< tt, (lit< tt, (lit< tt, (lit< tt, tt)))))) none in
      let z = eqb-false p 0 f.0 in
      let i : k.id ≤ 3 = ltb-false 3 k.id f.1.1.1.0 in
      let x : k.index ≤ 7 = ltb-false 7 k.index f.1.1.1.1.0 in
      record {
        low = omega arith;
        high = ltb-false 255 p f.1.0;
        id_in = omega arith;
        index_in = omega arith;
        short = ltb-false p n f.1.1.0;
      }

  left_is : left_in p k out ≡ encode p k
  unfolding write_for out_for written
  left_is =
      let t = fits in
      rw none (take_at (encode p k) (drop (0 + length (encode p k)) out) (p + 3) (encode_length p k t.low t.short))

  padded_is : padded (get_or (encode p k) 0 0) ≡ ltb (length k.chunk.body) p
  unfolding padded encode sealed plain_of
  padded_is =
      let t = fits in
      let pad = ltb (length k.chunk.body) p in
      ap (λ (x : List ℕ). eqb (get_or x 3 0) 1) (head_back k.chunk.first k.chunk.last k.id pad k.index t.id_in t.index_in) ∙ flag_back pad

  gives : Gives p k (encode p k)
  unfolding read_for useful_for head_for
  gives =
      let s = round p k fits in
      record {
        size = s.len;
        right = s.right;
        head = rw (s.right, s.says, padded_is) refl;
        useful = rw (s.right, s.says) refl;
      }

pub written_is_read : WrittenIsRead
written_is_read p k out e = rw (left_is p k out e) (gives p k out e)
