-- Each promise settles its call: two outcomes that meet it for the same input are equal (01, "Acceptance of the promises"). Assumes nothing.
use Prim.Native.Nat.{ℕ}
use mathlib.Core.Path.{◌≡◌, refl, ap}
use mathlib.Core.List.{List}
use Rattle.laws.specs.Settle.{Settles}
use Rattle.std.specs.Prelude.{Result}
use Rattle.refusal.specs.declared.Refusal.{Refusal}
use Rattle.refusal.proofs.Told.{Tells, settled_told_both}
use Rattle.moves.specs.Wrote.{wrote_in}
use Rattle.moves.proofs.Told.{wrote_tells}
use Rattle.frames.specs.Frames.{build_for, frame_for, Streams, streams_in, cut_for, stream_for}
use Rattle.description.specs.declared.Description.{Description}

-- an input is capacity, description, MSC mode, the four streams and the output before the call
pub build : Settles (λ (i : ℕ × Description × ℕ × List (List ℕ) × List ℕ) (o : Result ℕ Refusal × List ℕ).
    (wrote_in o.0 ≡ build_for i.0 i.1 i.2 i.3 i.4) × (o.1 ≡ frame_for i.0 i.1 i.2 i.3 i.4))
build = settled_told_both wrote_tells (λ i. build_for i.0 i.1 i.2 i.3 i.4) (λ i. frame_for i.0 i.1 i.2 i.3 i.4)

streams_tells : Tells streams_in
streams_tells =
    record { number = λ s. s.number; of_ok = λ ns. refl; of_err = λ r. refl; values = λ a b e. ap (λ (s : Streams). s.len) e }

-- the answer and each of the four outputs; an input is capacity, description, MSC mode, the frame and the outputs before the call
pub cut : (k : ℕ) → Settles (λ (i : ℕ × Description × ℕ × List ℕ × List (List ℕ)) (o : Result (List ℕ) Refusal × List ℕ).
    (streams_in o.0 ≡ cut_for i.0 i.1 i.2 i.3 i.4) × (o.1 ≡ stream_for i.0 i.1 i.2 i.3 i.4 k))
cut k = settled_told_both streams_tells (λ i. cut_for i.0 i.1 i.2 i.3 i.4) (λ i. stream_for i.0 i.1 i.2 i.3 i.4 k)
