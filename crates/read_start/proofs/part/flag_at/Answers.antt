use borrow.Author.Tests.{eq-eqb, ne_eqb}
use borrow.Author.Rules.{rules}
use Rattle.read_start.proofs.part.flag_at.Goals as goal

pub returns-then-block-at-eq0 : goal.returns-then-block-at-eq0
returns-then-block-at-eq0 c = rw (eq-eqb _ 0 c.if-block-at-eq0.true)

pub returns : goal.returns
returns c = rw (ne_eqb _ 0 c.if-block-at-eq0.false)
