-- B2 and B3, of the calls. Assumes nothing.
use Prim.Native.Nat.{ℕ, zero, suc, ◌≤◌}
use mathlib.Core.Path.{◌≡◌, refl, sym, ap, ◌∙◌}
use mathlib.Core.Bool.{Bool, true, false, not}
use mathlib.Core.List.{List, []}
use native.Mathlib.Omega.{arith}
use borrow.Author.Tests.{lt-ltb, le-ltb, ne_eqb}
use lib.Dec.{eqb}
use lib.ListN.{length}
use Rattle.laws.specs.Big.{Bytes}
use Rattle.laws.specs.Pick.{pick}
use Rattle.laws.specs.Refuse.{refused_with}
use Rattle.laws.proofs.Written.{front}
use Rattle.laws.proofs.Refuse.{accepted}
use Rattle.record.specs.declared.Record.{Record}
use Rattle.mdi.specs.Refusals.{tests_for}
use Rattle.mdi.specs.Reading.{read_for, stream_of, stream_for}
use Rattle.mdi_write.specs.Packet.{Streams, packet_of}
use Rattle.mdi_write.specs.Answers.{write_tests, write_number, write_for, out_for, Fits}
use Rattle.mdi_write.proofs.Numbers.{fits_of}
use Rattle.mdi_laws.specs.NoMatter.{ReadAlike}
use Rattle.mdi_laws.specs.RoundTrips.{left_in, streams_for, WrittenIsRead, ReadIsWritten}
use Rattle.mdi_laws.proofs.Back.{read_back, streams_back}
use Rattle.mdi_laws.proofs.Again as reread
use Rattle.mdi_laws.proofs.Again.{read_is, streams_are, fits_read}

-- what fits and has room is written
writes : (r : Record) (ss : Streams) (out : List ℕ) → Fits r ss → length (packet_of r ss) ≤ length out → (write_for r ss (length out)).number ≡ 0
unfolding write_for write_number write_tests
writes r ss out f h =
    accepted (write_tests r ss (length out))
    (f.short, (f.sdc, (f.fields, (f.served, (f.formed, (ap not f.lengths, (le-ltb (length out) (length (packet_of r ss)) h, tt)))))))

writes_only : (r : Record) (ss : Streams) (out : List ℕ) → (write_for r ss (length out)).number ≡ 0 → Fits r ss × (length (packet_of r ss) ≤ length out)
unfolding write_for write_number
writes_only r ss out e = fits_of r ss (length out) e

-- what it leaves is the packet
left_is : (r : Record) (ss : Streams) (out : List ℕ) → (write_for r ss (length out)).number ≡ 0 → left_in r ss out ≡ packet_of r ss
unfolding write_for out_for
left_is r ss out e = rw e (front out (packet_of r ss) (length (packet_of r ss)) refl)

-- ---- B2
pub written_is_read : WrittenIsRead
written_is_read r ss out t e =
    let f = (writes_only r ss out e).0 in
    let l = left_is r ss out e in
    record { content = ap read_for l ∙ read_back r ss t f; streams = ap (λ (p : List ℕ). streams_for p) l ∙ streams_back r ss t f }

-- ---- B3
either : (t : Bool) → pick {A = List ℕ} t [] [] ≡ []
either true = refl
either false = refl

-- no stream has a number over 3
none_over : (p : List ℕ) (k : ℕ) → 4 ≤ k → stream_for p k ≡ []
unfolding stream_for stream_of
none_over p k h =
    simp (lt-ltb 3 k (omega arith), ne_eqb k 0 (λ z. omega arith), ne_eqb k 1 (λ z. omega arith), ne_eqb k 2 (λ z. omega arith), ne_eqb k 3 (λ z. omega arith))
    (either (eqb (refused_with (tests_for p)) 0))

-- so four streams are all
streams_all : (p q : List ℕ) → streams_for p ≡ streams_for q → (k : ℕ) → stream_for p k ≡ stream_for q k
streams_all p q e zero = ap (λ (s : Streams). s.s0) e
streams_all p q e (suc zero) = ap (λ (s : Streams). s.s1) e
streams_all p q e (suc (suc zero)) = ap (λ (s : Streams). s.s2) e
streams_all p q e (suc (suc (suc zero))) = ap (λ (s : Streams). s.s3) e
streams_all p q e (suc (suc (suc (suc k)))) =
    let h : 4 ≤ suc (suc (suc (suc k))) = omega arith in none_over p (suc (suc (suc (suc k)))) h ∙ sym (none_over q (suc (suc (suc (suc k)))) h)

module _ (p : List ℕ) (b : Bytes p) (e : (read_for p).number ≡ 0) where
  number : refused_with (tests_for p) ≡ 0
  unfolding read_for
  number = e

  fits : Fits (read_for p).content (streams_for p)
  fits = rw (read_is p b number, streams_are p b number) (fits_read p b number)

  module _ (out : List ℕ) (room : length (packet_of (read_for p).content (streams_for p)) ≤ length out) where
    left : left_in (read_for p).content (streams_for p) out ≡ packet_of (read_for p).content (streams_for p)
    left = left_is (read_for p).content (streams_for p) out (writes (read_for p).content (streams_for p) out fits room)

    again : ReadAlike (left_in (read_for p).content (streams_for p) out) p
    again =
        record {
          content = ap read_for left ∙ reread.again p b number;
          stream = λ k. ap (λ (q : List ℕ). stream_for q k) left ∙ streams_all (packet_of (read_for p).content (streams_for p)) p (reread.streams_again p b number) k;
        }

pub read_is_written : ReadIsWritten
read_is_written = record { writes = writes; writes_only = writes_only; fits = fits; again = λ p out b e room. again p b e out room }
