use native.Mathlib.Omega.{arith}
use Rattle.read_outline.proofs.Laws.{size_six, four_none, four_as}
use Rattle.read_outline.proofs.end.of_four.Goals as goal

pub bounds-file-at : goal.bounds-file-at
bounds-file-at g c = omega (arith, size_six _ _ c.has_placements.ensures c.if-has_placements.true, c.requires.0)

pub bounds-file-at-then-has_placements : goal.bounds-file-at-then-has_placements
bounds-file-at-then-has_placements g c = omega (arith, size_six _ _ c.has_placements.ensures c.if-has_placements.true, c.requires.0)

pub bounds-file-at-then-has_placements-2 : goal.bounds-file-at-then-has_placements-2
bounds-file-at-then-has_placements-2 g c = omega (arith, size_six _ _ c.has_placements.ensures c.if-has_placements.true, c.requires.0)

pub bounds-file-at-then-has_placements-3 : goal.bounds-file-at-then-has_placements-3
bounds-file-at-then-has_placements-3 g c = omega (arith, size_six _ _ c.has_placements.ensures c.if-has_placements.true, c.requires.0)

pub returns-then-has_placements : goal.returns-then-has_placements
returns-then-has_placements g c = λ f q.
    four_as _ _ _ _ c.has_placements.ensures f c.if-has_placements.true _ _ _ _
    (q _ _ c.one.ensures) (q _ _ c.one-then-has_placements.ensures) (q _ _ c.one-then-has_placements-2.ensures) (q _ _ c.one-then-has_placements-3.ensures)

pub returns : goal.returns
returns g c = λ f q. four_none _ _ _ _ c.has_placements.ensures f c.if-has_placements.false
