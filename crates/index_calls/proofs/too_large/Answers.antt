use Rattle.index_calls.proofs.Laws.{large_many, large_far}
use Rattle.index_calls.proofs.too_large.Goals as goal

pub returns-then-frames-gt1048576 : goal.returns-then-frames-gt1048576
returns-then-frames-gt1048576 c = large_many _ c.args.last c.if-frames-gt1048576.true

pub returns : goal.returns
returns c = large_far _ c.args.last c.if-frames-gt1048576.false
