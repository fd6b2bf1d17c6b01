use native.Mathlib.Omega.{arith}
use borrow.Author.Rules.{rules}
use borrow.Author.Tests.{eq-eqb, ne_eqb}
use Rattle.measure.specs.Inner.{end_by}
use Rattle.measure.proofs.answer.end_by.Goals as goal

pub returns-then-p-eq0 : goal.returns-then-p-eq0
unfolding end_by
returns-then-p-eq0 c = rw (eq-eqb _ 0 c.if-p-eq0.true) c.no_end.ensures

pub returns : goal.returns
unfolding end_by
returns c = rw (ne_eqb _ 0 c.if-p-eq0.false) c.end_in.ensures

pub overflow_add-p : goal.overflow_add-p
overflow_add-p c = omega (arith, c.requires c.if-p-eq0.false)

pub end_in-requires : goal.end_in-requires
end_in-requires c = c.requires c.if-p-eq0.false
