use Rattle.fault_scan.proofs.Passing.{past_stop, no_span, by_length}
use borrow.Author.Rules.{rules}
use Rattle.fault_scan.proofs.pass.is_whole.Goals as goal

pub returns-then-n-gt0 : goal.returns-then-n-gt0
returns-then-n-gt0 c = by_length _ _ _ _ c.if-at-stop.true c.span_of-n.result c.span_of-n.ensures.0 c.if-n-gt0.true

pub returns-else-n-gt0 : goal.returns-else-n-gt0
returns-else-n-gt0 c = no_span _ _ _ _ c.if-at-stop.true c.span_of-n.result c.span_of-n.ensures.0 c.if-n-gt0.false

pub returns-else-at-stop : goal.returns-else-at-stop
returns-else-at-stop c = past_stop _ _ _ _ c.if-at-stop.false
