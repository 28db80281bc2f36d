-- `frames::cut` meets its contract. Assumes nothing.
use mathlib.Core.Path.{refl, sym, ◌∙◌}
use mathlib.Core.List.{[], ◌∷◌}
use lib.Dec.{lit<}
use lib.ListN.{length}
use Rattle.std.proofs.lemmas.Result.{err_from_is_err_and}
use Rattle.refusal.proofs.Numbers.{number_ne0}
use Rattle.frames.proofs.Ways.{cut_1, cut_stops, cut_short, cut_0}
use Rattle.places.proofs.Placing.{laid}
use Rattle.frames.proofs.Cutting.{out_fits, parts_of_law, cut_refused, kept, cut_done, cut_out}
use Rattle.frames.proofs.cut.Goals as goal

pub returns-then-frame-capacity : goal.returns-then-frame-capacity
returns-then-frame-capacity c =
    let a = c.args in
    let e = cut_1 _ a.d _ _ (length a.o0.now ∷ length a.o1.now ∷ length a.o2.now ∷ length a.o3.now ∷ []) c.if-frame-capacity.true in
    let w = kept _ a.d _ a.frame.now a.o0.now a.o1.now a.o2.now a.o3.now _ e (λ z. cc) in
    record { answer = cut_refused _ a.d _ a.frame.now a.o0.now a.o1.now a.o2.now a.o3.now _ e (λ z. cc); memory0 = w 0; memory1 = w 1; memory2 = w 2; memory3 = w 3 }

pub returns-in_err-p : goal.returns-in_err-p
returns-in_err-p c =
    let a = c.args in
    let p = err_from_is_err_and c.from_residual.result c.from_residual.ensures.1 in
    let n = laid _ a.d _ _ c.in_err-p.ensures in
    let e = cut_stops _ a.d _ _ (length a.o0.now ∷ length a.o1.now ∷ length a.o2.now ∷ length a.o3.now ∷ []) c.if-frame-capacity.false _ n (number_ne0 _) in
    let w = kept _ a.d _ a.frame.now a.o0.now a.o1.now a.o2.now a.o3.now _ e (number_ne0 _) in
    rw (p.1, p.2)
    (record {
      answer = cut_refused _ a.d _ a.frame.now a.o0.now a.o1.now a.o2.now a.o3.now _ e (number_ne0 _);
      memory0 = w 0;
      memory1 = w 1;
      memory2 = w 2;
      memory3 = w 3;
    })

pub returns-then-is_short : goal.returns-then-is_short
returns-then-is_short c =
    let a = c.args in
    let n = laid _ a.d _ _ c.in_ok-p.ensures in
    let e = cut_short _ a.d _ _ (length a.o0.now ∷ length a.o1.now ∷ length a.o2.now ∷ length a.o3.now ∷ []) c.if-frame-capacity.false _ n refl
    (sym c.is_short.ensures.0 ∙ c.if-is_short.true) in
    let w = kept _ a.d _ a.frame.now a.o0.now a.o1.now a.o2.now a.o3.now _ e (λ z. cc) in
    record { answer = cut_refused _ a.d _ a.frame.now a.o0.now a.o1.now a.o2.now a.o3.now _ e (λ z. cc); memory0 = w 0; memory1 = w 1; memory2 = w 2; memory3 = w 3 }

pub take_out-requires : goal.take_out-requires
take_out-requires c =
    let a = c.args in
    let n = laid _ a.d _ _ c.in_ok-p.ensures in
    let e = cut_0 _ a.d _ _ (length a.o0.now ∷ length a.o1.now ∷ length a.o2.now ∷ length a.o3.now ∷ []) c.if-frame-capacity.false _ n refl
    (sym c.is_short.ensures.0 ∙ c.if-is_short.false) in
    out_fits _ a.d _ _ _ _ _ _ _ c.is_short.ensures.1 e refl _ c.in_ok-p.ensures 0 (lit< tt)

pub take_out-requires-2 : goal.take_out-requires-2
take_out-requires-2 c =
    let a = c.args in
    let n = laid _ a.d _ _ c.in_ok-p.ensures in
    let e = cut_0 _ a.d _ _ (length a.o0.now ∷ length a.o1.now ∷ length a.o2.now ∷ length a.o3.now ∷ []) c.if-frame-capacity.false _ n refl
    (sym c.is_short.ensures.0 ∙ c.if-is_short.false) in
    out_fits _ a.d _ _ _ _ _ _ _ c.is_short.ensures.1 e refl _ c.in_ok-p.ensures 1 (lit< tt)

pub take_out-requires-3 : goal.take_out-requires-3
take_out-requires-3 c =
    let a = c.args in
    let n = laid _ a.d _ _ c.in_ok-p.ensures in
    let e = cut_0 _ a.d _ _ (length a.o0.now ∷ length a.o1.now ∷ length a.o2.now ∷ length a.o3.now ∷ []) c.if-frame-capacity.false _ n refl
    (sym c.is_short.ensures.0 ∙ c.if-is_short.false) in
    out_fits _ a.d _ _ _ _ _ _ _ c.is_short.ensures.1 e refl _ c.in_ok-p.ensures 2 (lit< tt)

pub take_out-requires-4 : goal.take_out-requires-4
take_out-requires-4 c =
    let a = c.args in
    let n = laid _ a.d _ _ c.in_ok-p.ensures in
    let e = cut_0 _ a.d _ _ (length a.o0.now ∷ length a.o1.now ∷ length a.o2.now ∷ length a.o3.now ∷ []) c.if-frame-capacity.false _ n refl
    (sym c.is_short.ensures.0 ∙ c.if-is_short.false) in
    out_fits _ a.d _ _ _ _ _ _ _ c.is_short.ensures.1 e refl _ c.in_ok-p.ensures 3 (lit< tt)

pub returns : goal.returns
returns c =
    let a = c.args in
    let n = laid _ a.d _ _ c.in_ok-p.ensures in
    let e = cut_0 _ a.d _ _ (length a.o0.now ∷ length a.o1.now ∷ length a.o2.now ∷ length a.o3.now ∷ []) c.if-frame-capacity.false _ n refl
    (sym c.is_short.ensures.0 ∙ c.if-is_short.false) in
    let q = parts_of_law _ a.d _ _ _ _ _ _ _ c.is_short.ensures.1 e refl _ c.in_ok-p.ensures in
    let w = cut_out _ a.d _ a.frame.now a.o0.now a.o1.now a.o2.now a.o3.now _ e refl _ q in
    record {
      answer = cut_done _ a.d _ a.frame.now a.o0.now a.o1.now a.o2.now a.o3.now _ e refl _ c.sizes.ensures;
      memory0 = w 0 _ c.take_out.ensures;
      memory1 = w 1 _ c.take_out-2.ensures;
      memory2 = w 2 _ c.take_out-3.ensures;
      memory3 = w 3 _ c.take_out-4.ensures;
    }
