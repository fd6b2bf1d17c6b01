use borrow.Author.Rules.{rules}
use Rattle.read_judge.proofs.Steps.{headed}
use Rattle.index_calls.proofs.Laws.{write_head}
use Rattle.index_calls.proofs.write_index.Goals as goal

pub returns-then-h-ne0 : goal.returns-then-h-ne0
returns-then-h-ne0 c = let h = c.parse_head-h in let a = c.args in write_head a.file.now _ h.result h.ensures c.if-h-ne0.true _

pub write_events-requires : goal.write_events-requires
write_events-requires c =
    let h = c.parse_head-h in let a = c.args in headed a.file.now _ h.result h.ensures (λ i. (c.shared_slice_known-1.given i).fits) c.if-h-ne0.false

pub returns : goal.returns
returns c = c.write_events.ensures
