use Rattle.fault_scan.proofs.Laws.{first_comes, first_none}
use borrow.Author.Rules.{rules}
use Rattle.fault_scan.proofs.around.first_end.Goals as goal

pub returns-then-may_end : goal.returns-then-may_end
returns-then-may_end c = let m = c.may_end in (first_comes _ _ _ _ _ _ m.result m.ensures.0 c.if-may_end.true, m.ensures.1 c.if-may_end.true)

pub returns : goal.returns
returns c = let m = c.may_end in (first_none _ _ _ _ _ _ m.result m.ensures.0 c.if-may_end.false, c.end_reason-reason.ensures)
