use borrow.Author.Rules.{rules}
use lib.ListN.{get_or}
use Rattle.index_calls.proofs.Laws.{short_none, short_some}
use Rattle.index_calls.proofs.short_start.Goals as goal

pub returns-then-frames-gt0 : goal.returns-then-frames-gt0
returns-then-frames-gt0 c = short_some _ _ c.span_of.result c.if-frames-gt0.true c.span_of.ensures.0

pub returns : goal.returns
returns c = short_none _ (get_or c.args.spans.now 0x3A 0) c.if-frames-gt0.false
