use borrow.Author.Rules.{rules}
use Rattle.newer_judge.proofs.Steps.{newly}
use Rattle.newer_judge.proofs.judge_newer.Goals as goal

pub judge_events-requires : goal.judge_events-requires
judge_events-requires c =
    let h = c.parse_head-h in
    newly c.args.file.now _ h.result h.ensures (λ i. (c.shared_slice_known-1.given i).fits) c.requires

pub returns : goal.returns
returns c = c.judge_events.ensures
