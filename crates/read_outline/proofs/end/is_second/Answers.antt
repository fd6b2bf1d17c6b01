use Rattle.read_outline.proofs.Laws.{second_not, second_more, second_as}
use Rattle.read_outline.proofs.end.is_second.Goals as goal

pub returns-then-at-n : goal.returns-then-at-n
returns-then-at-n c = second_as _ _ _ _ _ _ _ c.is_right.ensures.0 c.if-is_right.true _ c.end_size-n.ensures.0 c.if-at-n.true _ c.same_run.ensures

pub returns-else-at-n : goal.returns-else-at-n
returns-else-at-n c = second_more _ _ _ _ _ _ _ c.is_right.ensures.0 c.if-is_right.true _ c.end_size-n.ensures.0 c.if-at-n.false

pub returns-else-is_right : goal.returns-else-is_right
returns-else-is_right c = second_not _ _ _ _ _ _ _ c.is_right.ensures.0 c.if-is_right.false
