use mathlib.Core.Path.{ap, ◌∙◌}
use native.Mathlib.Omega.{arith}
use lib.ListN.{length}
use Rattle.read_event.proofs.Likeness.{place_first, place_next, step_in_lem, steps_length, steps_first, steps_more, steps_all}
use Rattle.read_event.proofs.alike.put_steps.Goals as goal

pub loop-t-init : goal.loop-t-init
loop-t-init c = (omega arith, place_first _ _, steps_first _ _ _ _)

pub overflow_add-places : goal.overflow_add-places
overflow_add-places c = let l = c.loop-t in omega (arith, c.loop-t-test.true, c.requires.0, c.well_formed)

pub offset_bounds-places-i : goal.offset_bounds-places-i
offset_bounds-places-i c = let l = c.loop-t in omega (arith, c.loop-t-test.true, c.requires.0, c.well_formed)

pub bounds-places-i : goal.bounds-places-i
bounds-places-i c = let l = c.loop-t in let n = ap length l.invariant.2 ∙ steps_length _ _ _ _ _ in omega (arith, c.loop-t-test.true, c.requires.0, n)

pub overflow_add-p : goal.overflow_add-p
overflow_add-p c = let l = c.loop-t in let a = c.args in let k = step_in_lem a.step l.t c.loop-t-test.true in omega (arith, l.invariant.1, k, c.requires.1, c.well_formed)

pub loop-t-preserved : goal.loop-t-preserved
loop-t-preserved c = let l = c.loop-t in let a = c.args in (omega (arith, c.loop-t-test.true), place_next _ _ _ _ l.invariant.1, steps_more _ _ _ _ _ _ _ l.invariant.1 l.invariant.2)

pub shape_of-places : goal.shape_of-places
shape_of-places c = ap length c.loop-t.invariant.2 ∙ steps_length _ _ _ _ _

pub returns : goal.returns
returns c = let l = c.loop-t in steps_all _ _ _ _ _ _ (omega (arith, c.loop-t-test.false, l.invariant.0)) l.invariant.2
