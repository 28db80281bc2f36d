-- `sender::Sender::try_frame` meets its contract. Assumes nothing.
use mathlib.Core.Path.{refl}
use native.Mathlib.Omega.{arith}
use Rattle.std.proofs.lemmas.Result.{err_from_is_err_and}
use Rattle.refusal.specs.Refusal.{number_of}
use Rattle.refusal.proofs.Numbers.{number_ne0}
use Rattle.hand.proofs.Answer.{not_refused}
use Rattle.sender.proofs.Framing.{p_in, ready, rows_in, ends_in, bytes_are}
use Rattle.sender.proofs.Going.{waiting_is, starts_in, less_in, ring_framed_law, frame_refused, frame_going, frame_done}
use Rattle.sender.proofs.Sender.try_frame.Goals as goal

pub returns-in_err-frame_check : goal.returns-in_err-frame_check
returns-in_err-frame_check c =
    let p = err_from_is_err_and c.from_residual.result c.from_residual.ensures.1 in
    rw (p.1, p.2)
    (let both = frame_refused _ _ c.args.store.now c.args.out.now (number_of c.in_err-frame_check.field-0.0) c.in_err-frame_check.ensures (number_ne0 _) in record { answer = both.0; output = both.1 })

pub returns-in_err-h : goal.returns-in_err-h
returns-in_err-h c =
    let go = frame_going _ _ c.args.store.now c.args.out.now _ c.in_ok-frame_check.ensures refl in
    absurd (not_refused _ _ _ _ go.fit.allowed_in c.in_err-h.ensures)

pub overflow_cast-settings : goal.overflow_cast-settings
overflow_cast-settings c =
    let go = frame_going _ _ c.args.store.now c.args.out.now _ c.in_ok-frame_check.ensures refl in
    omega (arith, p_in _ _ _ _ go.fit)

pub write_rows-e-requires : goal.write_rows-e-requires
write_rows-e-requires c =
    let go = frame_going _ _ c.args.store.now c.args.out.now _ c.in_ok-frame_check.ensures refl in
    let t = c.three-w.ensures in
    (ready _ _ _ _ go.fit _ refl, rows_in _ _ _ _ go.fit _ refl _ (waiting_is _ _ _ _ go c.shape.ensures _ refl _ t.0 t.1 t.2) _ c.in_ok-h.ensures)

pub less-waiting-requires : goal.less-waiting-requires
less-waiting-requires c =
    let go = frame_going _ _ c.args.store.now c.args.out.now _ c.in_ok-frame_check.ensures refl in
    let t = c.three-w.ensures in
    less_in _ _ _ _ go c.shape.ensures _ refl _ t.0 t.1 t.2 _ c.in_ok-h.ensures

pub on-start-requires : goal.on-start-requires
on-start-requires c =
    let go = frame_going _ _ c.args.store.now c.args.out.now _ c.in_ok-frame_check.ensures refl in
    let t = c.three-w.ensures in
    let y = starts_in _ _ _ _ go c.shape.ensures _ c.three.ensures.0 c.three.ensures.1 c.three.ensures.2 in
    let z = ends_in _ _ _ _ go.fit _ refl _ (waiting_is _ _ _ _ go c.shape.ensures _ refl _ t.0 t.1 t.2) _ c.in_ok-h.ensures _ c.write_rows-e.ensures.value in
    (y.0, y.1, y.2, z.0, z.1, z.2)

pub returns : goal.returns
returns c =
    let go = frame_going _ _ c.args.store.now c.args.out.now _ c.in_ok-frame_check.ensures refl in
    let t = c.three-w.ensures in
    let y = c.three.ensures in
    let both = frame_done _ _ c.args.store.now c.args.out.now _ c.in_ok-frame_check.ensures refl _ _
    (ring_framed_law _ _ _ _ go c.shape.ensures _ refl _ t.0 t.1 t.2 _ c.in_ok-h.ensures _ c.write_rows-e.ensures.value _ c.next_state-turn.ensures _ y.0 y.1 y.2 _ _
    c.less-waiting.ensures c.on-start.ensures)
    (bytes_are _ _ _ _ go.fit _ refl _ (waiting_is _ _ _ _ go c.shape.ensures _ refl _ t.0 t.1 t.2) _ c.in_ok-h.ensures _ _ _ c.write_rows-e.ensures.out_after) in
    record { answer = both.0; output = both.1 }
