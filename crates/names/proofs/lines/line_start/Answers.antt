use Rattle.names.proofs.Texts.{passed_start, passed_more, passed_done}
use Rattle.names.proofs.lines.line_start.Goals as goal

pub loop-init : goal.loop-init
loop-init c = passed_start _ _

pub line_after-at-requires : goal.line_after-at-requires
line_after-at-requires c = c.loop.invariant.inside

pub loop-preserved : goal.loop-preserved
loop-preserved c = passed_more c.loop.invariant c.loop-test.true c.line_after-at.ensures.0 c.line_after-at.ensures.1

pub returns : goal.returns
returns c = (passed_done c.loop.invariant c.loop-test.false, c.loop.invariant.inside)
