use native.Mathlib.Omega.{arith}
use Rattle.read_outline.proofs.Laws.{size_two, named_none, named_as}
use Rattle.read_outline.proofs.end.initiator_in.Goals as goal

pub bounds-file-at : goal.bounds-file-at
bounds-file-at c = omega (arith, size_two _ _ c.has_initiator.ensures c.if-has_initiator.true)

pub returns-then-has_initiator : goal.returns-then-has_initiator
returns-then-has_initiator c = named_as _ _ _ _ c.has_initiator.ensures c.if-has_initiator.true

pub returns : goal.returns
returns c = named_none _ _ _ _ c.has_initiator.ensures c.if-has_initiator.false
