use mathlib.Core.Path.{refl, sym, ◌∙◌}
use native.Mathlib.Omega.{arith}
use Rattle.start.specs.Gate.{gates}
use Rattle.start.specs.Length.{length_of}
use Rattle.start.proofs.Lengths.{is_reached, is_passed, all_passed}
use Rattle.start.proofs.length.block_length.Goals as goal

pub loop-g-init : goal.loop-g-init
unfolding length_of
loop-g-init c = refl

pub returns-then-reached : goal.returns-then-reached
returns-then-reached c =
    is_reached _ gates c.loop-g.g-index _ _ (omega arith) (sym c.reached.ensures ∙ c.if-reached.true) c.loop-g.invariant

pub loop-g-preserved : goal.loop-g-preserved
loop-g-preserved c =
    is_passed _ gates c.loop-g.g-index _ _ (omega arith) (sym c.reached.ensures ∙ c.if-reached.false) c.loop-g.invariant

pub returns : goal.returns
returns c = all_passed _ gates c.loop-g.g-index _ (omega arith) c.loop-g.invariant
