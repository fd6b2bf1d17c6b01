use mathlib.Core.Path.{refl, ◌∙◌}
use native.Mathlib.Omega.{arith}
use Rattle.read_leap.proofs.Leaps.{offsets_first, offsets_more, offsets_all, offsets_off}
use Rattle.read_leap.proofs.leap.put_offsets.Goals as goal

pub loop-t-init : goal.loop-t-init
loop-t-init c = (omega arith, offsets_first _ _ _ _, refl)

pub overflow_add-n : goal.overflow_add-n
overflow_add-n c = omega (arith, c.requires, c.loop-t.invariant.0)

pub loop-t-preserved : goal.loop-t-preserved
loop-t-preserved c = let l = c.loop-t.invariant in (omega (arith, c.loop-t-test.true), offsets_more _ _ _ _ _ _ _ refl l.1 c.mark.ensures, c.mark.auto.cells ∙ l.2)

pub shape_of-offsets : goal.shape_of-offsets
shape_of-offsets c = c.loop-t.invariant.2

pub returns-after-loop-t : goal.returns-after-loop-t
returns-after-loop-t c = let l = c.loop-t.invariant in offsets_all _ _ _ _ _ _ c.if-on.true (omega (arith, c.loop-t-test.false, l.0)) l.1

pub returns-else-on : goal.returns-else-on
returns-else-on c = offsets_off _ _ _ _ _ c.if-on.false
