use native.Mathlib.Omega.{arith}
use mathlib.Core.Path.{◌∙◌}
use Rattle.read_outline.proofs.Laws.{pass_first, pass_next, pass_last}
use Rattle.read_outline.proofs.blocks.Goals as goal

pub loop-at-init : goal.loop-at-init
loop-at-init c = let a = c.args in pass_first a.v a.file.now a.spans.now a.stop a.first c.requires

pub is_full-requires : goal.is_full-requires
is_full-requires c = c.loop-at.invariant.within

pub overflow_add-at : goal.overflow_add-at
overflow_add-at c = omega (arith, c.is_full.ensures.1 c.loop-at-test.true, c.loop-at.invariant.within.long)

pub overflow_add-n : goal.overflow_add-n
overflow_add-n c = omega (arith, c.is_full.ensures.1 c.loop-at-test.true, c.loop-at.invariant.within.long, c.loop-at.invariant.few)

pub loop-at-smaller : goal.loop-at-smaller
loop-at-smaller c = omega (arith, c.is_full.ensures.1 c.loop-at-test.true)

pub loop-at-preserved : goal.loop-at-preserved
loop-at-preserved c = pass_next _ _ _ _ _ _ _ c.loop-at.invariant _ c.is_full.ensures.0 c.loop-at-test.true (c.is_full.ensures.1 c.loop-at-test.true)

pub last_block-requires : goal.last_block-requires
last_block-requires c = (c.loop-at.invariant.within, omega (arith, c.loop-at.invariant.few))

pub returns : goal.returns
returns c = c.last_block.ensures ∙ pass_last _ _ _ _ _ _ _ c.loop-at.invariant _ c.is_full.ensures.0 c.loop-at-test.false
