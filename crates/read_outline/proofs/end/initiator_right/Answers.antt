use native.Mathlib.Omega.{arith}
use mathlib.Core.Path.{refl}
use Rattle.read_outline.proofs.Laws.{size_two, initiator_early, initiator_low, initiator_as}
use Rattle.read_outline.proofs.end.initiator_right.Goals as goal

pub bounds-file-at : goal.bounds-file-at
bounds-file-at c = omega (arith, size_two _ _ c.has_initiator.ensures c.if-has_initiator.true)

pub returns-then-initiator-le3 : goal.returns-then-initiator-le3
returns-then-initiator-le3 c = initiator_low _ _ _ _ c.has_initiator.ensures c.if-has_initiator.true _ refl c.if-initiator-le3.true

pub returns-then-has_initiator : goal.returns-then-has_initiator
returns-then-has_initiator c = initiator_as _ _ _ _ c.has_initiator.ensures c.if-has_initiator.true _ refl c.if-initiator-le3.false

pub returns : goal.returns
returns c = initiator_early _ _ _ _ c.has_initiator.ensures c.if-has_initiator.false
