use mathlib.Core.Path.{refl, ◌∙◌}
use native.Mathlib.Omega.{arith}
use Rattle.read_event.proofs.Likeness.{place_first, place_next, step_in_lem}
use Rattle.read_leap.proofs.Leaps.{ids_first, ids_more, ids_all}
use Rattle.read_leap.proofs.leap.put_ids.Goals as goal

pub loop-t-init : goal.loop-t-init
loop-t-init c = (omega arith, place_first _ _, ids_first _ _ _ _ _, refl)

pub overflow_add-n : goal.overflow_add-n
overflow_add-n c = omega (arith, c.requires.2, c.loop-t.invariant.0)

pub overflow_add-p : goal.overflow_add-p
overflow_add-p c =
    let l = c.loop-t in
    let a = c.args in
    let h = c.requires in
    let k = step_in_lem a.step l.t c.loop-t-test.true in omega (arith, l.invariant.1, k, h.0, h.1, c.well_formed)

pub get_be-requires : goal.get_be-requires
get_be-requires c = let l = c.loop-t in let a = c.args in let h = c.requires in let k = step_in_lem a.step l.t c.loop-t-test.true in (omega arith, omega (arith, l.invariant.1, k, h.0, h.1))

pub overflow_add-p-in-loop-t : goal.overflow_add-p-in-loop-t
overflow_add-p-in-loop-t c =
    let l = c.loop-t in
    let a = c.args in
    let h = c.requires in
    let k = step_in_lem a.step l.t c.loop-t-test.true in omega (arith, l.invariant.1, k, h.0, c.well_formed)

pub loop-t-preserved : goal.loop-t-preserved
loop-t-preserved c =
    let l = c.loop-t.invariant in
    (omega (arith, c.loop-t-test.true), place_next _ _ _ _ l.1, ids_more _ _ _ _ _ _ _ _ _ _ l.1 c.get_be.ensures l.2 c.mark.ensures, c.mark.auto.cells ∙ l.3)

pub shape_of-ids : goal.shape_of-ids
shape_of-ids c = c.loop-t.invariant.3

pub returns : goal.returns
returns c = let l = c.loop-t.invariant in ids_all _ _ _ _ _ _ _ (omega (arith, c.loop-t-test.false, l.0)) l.2
