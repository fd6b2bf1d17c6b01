use borrow.Author.Rules.{rules}
use borrow.Author.Tests.{eq-eqb, ne_eqb}
use native.Mathlib.Nat.{add-zero}
use Rattle.case_calls.proofs.count.one_more.Goals as goal

pub returns-then-found-code : goal.returns-then-found-code
returns-then-found-code c = rw (eq-eqb c.args.found c.args.code c.if-found-code.true)

pub returns : goal.returns
returns c = rw (ne_eqb c.args.found c.args.code c.if-found-code.false, add-zero)
