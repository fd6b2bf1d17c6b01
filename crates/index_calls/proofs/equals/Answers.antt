use native.Mathlib.Omega.{arith}
use Rattle.index_calls.proofs.Laws.{same_not, same_count, same_all}
use Rattle.index_calls.proofs.equals.Goals as goal

pub overflow_mul-frames : goal.overflow_mul-frames
overflow_mul-frames c = omega (arith, c.requires.2)

pub overflow_add-frames : goal.overflow_add-frames
overflow_add-frames c = omega (arith, c.requires.2)

pub overflow_cast-frames : goal.overflow_cast-frames
overflow_cast-frames c = omega (arith, c.requires.2)

pub stands_at-requires : goal.stands_at-requires
stands_at-requires c = omega (arith, c.if-index-frames.true)

pub same_rows-requires : goal.same_rows-requires
same_rows-requires c = let s = c.requires in (s.0, omega (arith, c.if-index-frames.true, s.1))

pub returns-then-stands_at : goal.returns-then-stands_at
returns-then-stands_at c =
    let g = c.args in let s = c.requires in let a = c.stands_at in same_all g.file.now g.index.now g.frames s.1 c.if-index-frames.true s.3 a.result a.ensures c.if-stands_at.true c.same_rows.result c.same_rows.ensures

pub returns-else-stands_at : goal.returns-else-stands_at
returns-else-stands_at c =
    let g = c.args in let s = c.requires in let a = c.stands_at in same_count g.file.now g.index.now g.frames s.1 c.if-index-frames.true s.3 a.result a.ensures c.if-stands_at.false

pub returns-else-index-frames : goal.returns-else-index-frames
returns-else-index-frames c = let g = c.args in let s = c.requires in same_not g.file.now g.index.now g.frames s.1 c.if-index-frames.false
