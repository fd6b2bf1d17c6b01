use Rattle.fault_scan.proofs.Laws.{second_comes, second_none}
use borrow.Author.Rules.{rules}
use Rattle.fault_scan.proofs.around.second_end.Goals as goal

pub returns-then-may_repeat : goal.returns-then-may_repeat
returns-then-may_repeat c = let m = c.may_repeat in second_comes _ _ _ _ m.result m.ensures c.if-may_repeat.true

pub returns : goal.returns
returns c = let m = c.may_repeat in (second_none _ _ _ _ m.result m.ensures c.if-may_repeat.false, c.second_reason-reason.ensures)
