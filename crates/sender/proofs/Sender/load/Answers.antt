-- `sender::Sender::load` meets its contract. Assumes nothing.
use mathlib.Core.Path.{refl, ◌∙◌}
use native.Mathlib.Omega.{arith}
use borrow.Author.Rules.{rules}
use Rattle.refusal.proofs.Numbers.{number_ne0}
use Rattle.sender.proofs.Entering.{load_refused_law, load_offered, load_full, load_whole, load_fits, load_done}
use Rattle.sender.proofs.Sender.load.Goals as goal

pub returns-in-Err : goal.returns-in-Err
returns-in-Err c =
    let both = load_refused_law _ _ _ c.args.unit.now c.args.store.now _ c.in-Err.ensures (number_ne0 _) in
    record { answer = c.keeping.ensures ∙ both.0; memory = both.1 }

pub offset_bounds-entered-id : goal.offset_bounds-entered-id
offset_bounds-entered-id c = omega (arith, (load_offered _ _ _ c.args.unit.now c.args.store.now _ c.in_default.ensures refl).id_in)

pub bounds-entered-id : goal.bounds-entered-id
bounds-entered-id c = search ((load_offered _ _ _ c.args.unit.now c.args.store.now _ c.in_default.ensures refl).id_in, rules)

pub is_full-requires : goal.is_full-requires
is_full-requires c = ((load_offered _ _ _ c.args.unit.now c.args.store.now _ c.in_default.ensures refl).most, c.unsent-bytes.ensures.1)

pub returns-then-is_full : goal.returns-then-is_full
returns-then-is_full c = let both = load_full _ _ _ c.args.unit.now c.args.store.now _ c.in_default.ensures refl _ refl _ c.unsent-bytes.ensures.0 _ c.is_full.ensures c.if-is_full.true in record { answer = c.keeping-then-is_full.ensures ∙ both.0; memory = both.1 }

pub offset_bounds-entered-id-2 : goal.offset_bounds-entered-id-2
offset_bounds-entered-id-2 c = omega (arith, (load_offered _ _ _ c.args.unit.now c.args.store.now _ c.in_default.ensures refl).id_in)

pub bounds-entered-id-2 : goal.bounds-entered-id-2
bounds-entered-id-2 c = search ((load_offered _ _ _ c.args.unit.now c.args.store.now _ c.in_default.ensures refl).id_in, rules)

pub behind-requires : goal.behind-requires
behind-requires c = c.unsent-bytes.ensures.1

pub put_in-requires : goal.put_in-requires
put_in-requires c =
    let o = load_offered _ _ _ c.args.unit.now c.args.store.now _ c.in_default.ensures refl in
    (o.id_in, load_whole _ _ _ c.args.unit.now c.args.store.now _ c.in_default.ensures refl _ refl _ c.unsent-bytes.ensures.0 _ c.is_full.ensures c.if-is_full.false, c.behind.ensures.1, o.most)

pub overflow_cast-n : goal.overflow_cast-n
overflow_cast-n c = omega (arith, (load_offered _ _ _ c.args.unit.now c.args.store.now _ c.in_default.ensures refl).most)

pub offset_bounds-entered-id-3 : goal.offset_bounds-entered-id-3
offset_bounds-entered-id-3 c = omega (arith, (load_offered _ _ _ c.args.unit.now c.args.store.now _ c.in_default.ensures refl).id_in)

pub bounds-entered-id-3 : goal.bounds-entered-id-3
bounds-entered-id-3 c = search ((load_offered _ _ _ c.args.unit.now c.args.store.now _ c.in_default.ensures refl).id_in, rules)

pub overflow_cast-settings : goal.overflow_cast-settings
overflow_cast-settings c = omega (arith, (load_offered _ _ _ c.args.unit.now c.args.store.now _ c.in_default.ensures refl).high)

pub overflow_cast-n-2 : goal.overflow_cast-n-2
overflow_cast-n-2 c = omega (arith, (load_offered _ _ _ c.args.unit.now c.args.store.now _ c.in_default.ensures refl).most)

pub offset_bounds-entered-id-4 : goal.offset_bounds-entered-id-4
offset_bounds-entered-id-4 c = omega (arith, (load_offered _ _ _ c.args.unit.now c.args.store.now _ c.in_default.ensures refl).id_in)

pub bounds-entered-id-4 : goal.bounds-entered-id-4
bounds-entered-id-4 c = search ((load_offered _ _ _ c.args.unit.now c.args.store.now _ c.in_default.ensures refl).id_in, rules)

pub overflow_add-entered : goal.overflow_add-entered
overflow_add-entered c = omega (arith, load_fits _ _ _ c.args.unit.now c.args.store.now _ c.in_default.ensures refl _ refl _ c.unsent-bytes.ensures.0 _ c.is_full.ensures c.if-is_full.false c.shape.ensures _ c.packets.ensures.1)

pub bounds-entered-id-5 : goal.bounds-entered-id-5
bounds-entered-id-5 c = search ((load_offered _ _ _ c.args.unit.now c.args.store.now _ c.in_default.ensures refl).id_in, rules)

pub returns : goal.returns
returns c = let both = load_done _ _ _ c.args.unit.now c.args.store.now _ c.in_default.ensures refl _ refl _ c.unsent-bytes.ensures.0 _ c.is_full.ensures c.if-is_full.false c.shape.ensures _ _ _ c.pushed-r.ensures c.packets.ensures.0 _ c.behind.ensures.0 c.put_in.ensures in record { answer = both.0; memory = both.1 }
