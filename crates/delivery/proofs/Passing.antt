-- n packets of a queue at its line: what they complete, with what is unfinished then, is what was unfinished. Assumes nothing.
use Prim.Native.Nat.{ℕ, zero, suc, ◌+◌, ◌%◌}
use mathlib.Core.Path.{◌≡◌, refl, sym, ap, ap₂, ◌∙◌, subst}
use mathlib.Core.List.{List, [], ◌∷◌, ◌++◌, append_assoc, append-nil}
use mathlib.Core.Bool.{Bool, false, true≢false}
use lib.ListN.{length}
use Rattle.row.specs.Content.{chunk_of, rest_of, begun_of, rests, begun_after, chunks}
use Rattle.receiver.specs.Line.{Line, idle, line_after, units_by, line_through, units_through}
use Rattle.receiver.proofs.Lines.{through_append, units_append}
use Rattle.demand.specs.Bytes.{index_after, numbered}
use Rattle.demand.specs.Stream.{AllFit, Fair}
use Rattle.demand.proofs.Packets.{numbered_append}
use Rattle.demand.proofs.Chunks.{chunks_length}
use Rattle.delivery.specs.Whole.{wholes}
use Rattle.delivery.specs.Flow.{Linked}
use Rattle.delivery.proofs.Step.{passed}

-- the first n of them, and the next one
pub packets_more : (p id i n : ℕ) (b : Bool) (us : List (List ℕ))
    → numbered id i (chunks p (suc n) b us)
    ≡ numbered id i (chunks p n b us) ++ (record { id = id; index = index_after n i; chunk = chunk_of p (begun_after p n b us) (rests p n us) } ∷ [])
unfolding chunks numbered
packets_more p id i n b us =
    let c = chunk_of p (begun_after p n b us) (rests p n us) in
    numbered_append id i (chunks p n b us) (c ∷ [])
    ∙ ap (λ (m : ℕ). numbered id i (chunks p n b us) ++ (record { id = id; index = index_after m i; chunk = c } ∷ [])) (chunks_length p n b us)

pub record Gone (p id n : ℕ) (us : List (List ℕ)) (b : Bool) (i : ℕ) (l : Line) : Type 0 where
  pub linked : Linked (rests p n us) (begun_after p n b us) (index_after n i) (line_through l (numbered id i (chunks p n b us)))
  pub same : units_through l (numbered id i (chunks p n b us)) ++ wholes (line_through l (numbered id i (chunks p n b us))) (rests p n us) ≡ wholes l us

pub gone : (p id n : ℕ) (us : List (List ℕ)) (b : Bool) (i : ℕ) (l : Line) → Linked us b i l → Gone p id n us b i l
unfolding chunks numbered rests begun_after index_after line_through units_through
gone p id zero us b i l k = record { linked = k; same = refl }
gone p id (suc n) us b i l k =
    let g = gone p id n us b i l k in
    let ks = numbered id i (chunks p n b us) in
    let m = line_through l ks in
    let vs = rests p n us in
    let c = chunk_of p (begun_after p n b us) vs in
    let j = index_after n i in
    let q = passed p vs (begun_after p n b us) j m g.linked in
    let e : numbered id i (chunks p (suc n) b us) ≡ ks ++ (record { id = id; index = j; chunk = c } ∷ []) = packets_more p id i n b us in
    let f : line_through l (numbered id i (chunks p (suc n) b us)) ≡ line_after m j c = ap (line_through l) e ∙ through_append l ks (record { id = id; index = j; chunk = c } ∷ []) in
    let u : units_through l (numbered id i (chunks p (suc n) b us)) ≡ units_through l ks ++ units_by m j c =
    ap (units_through l) e ∙ units_append l ks (record { id = id; index = j; chunk = c } ∷ []) ∙ ap (λ (x : List (List ℕ)). units_through l ks ++ x) (append-nil (units_by m j c)) in
    record {
      linked = subst (Linked (rest_of p vs) (begun_of p vs) ((j + 1) % 8)) (sym f) q.linked;
      same =
          ap₂ (λ (x : List (List ℕ)) (y : Line). x ++ wholes y (rest_of p vs)) u f
          ∙ append_assoc (units_through l ks) (units_by m j c) (wholes (line_after m j c) (rest_of p vs))
          ∙ ap (λ (x : List (List ℕ)). units_through l ks ++ x) q.same
          ∙ g.same;
    }

-- ---- a line with no unit open
pub idle_linked : (us : List (List ℕ)) (i : ℕ) → Fair us → Linked us false i idle
unfolding wholes
idle_linked us i f =
    record {
      index = λ e. absurd (true≢false (sym e));
      begun = refl;
      size = refl;
      none = λ e. refl;
      idle = λ e. refl;
      some = f.some;
      fit = go us f.fit;
    }
  where
    go : (us : List (List ℕ)) → AllFit us → AllFit (wholes idle us)
    go [] a = tt
    go (u ∷ us) a = a

pub wholes_idle : (us : List (List ℕ)) → wholes idle us ≡ us
unfolding wholes
wholes_idle [] = refl
wholes_idle (u ∷ us) = refl

pub wholes_length : (l : Line) (us : List (List ℕ)) → length (wholes l us) ≡ length us
unfolding wholes
wholes_length l [] = refl
wholes_length l (u ∷ us) = refl
