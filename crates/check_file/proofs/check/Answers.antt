use borrow.Author.Rules.{rules}
use Rattle.read_judge.proofs.Steps.{headed}
use Rattle.check_file.proofs.Laws.{head_refused}
use Rattle.check_file.proofs.check.Goals as goal

pub returns-then-h-ne0 : goal.returns-then-h-ne0
returns-then-h-ne0 c =
    let h = c.parse_head-h in
    head_refused c.args.file.now _ h.result h.ensures c.if-h-ne0.true

pub check_events-requires : goal.check_events-requires
check_events-requires c =
    let h = c.parse_head-h in
    headed c.args.file.now _ h.result h.ensures (λ i. (c.shared_slice_known-1.given i).fits) c.if-h-ne0.false

pub returns : goal.returns
returns c = c.check_events.ensures
