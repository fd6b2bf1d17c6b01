use borrow.Author.Rules.{rules}
use Rattle.read_judge.proofs.StartLaws.{changes_has, changes_lacks}
use Rattle.read_judge.proofs.parts.changing.Goals as goal

pub returns-then-exists : goal.returns-then-exists
returns-then-exists c = let e = c.exists in let a = c.args in changes_has a.v a.t e.result e.ensures c.if-exists.true

pub returns : goal.returns
returns c = let e = c.exists in let a = c.args in changes_lacks a.v a.t e.result e.ensures c.if-exists.false
