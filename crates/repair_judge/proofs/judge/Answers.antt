use borrow.Author.Rules.{rules}
use Rattle.repair_judge.proofs.Laws.{head_wrong, topped}
use Rattle.repair_judge.proofs.judge.Goals as goal

pub returns-then-t-ne0 : goal.returns-then-t-ne0
returns-then-t-ne0 c = let t = c.open_head-t in head_wrong _ _ t.result t.ensures c.if-t-ne0.true

pub judge_events-requires : goal.judge_events-requires
judge_events-requires c =
    let t = c.open_head-t in
    topped _ _ t.result t.ensures (λ i. (c.shared_slice_known-1.given i).fits) c.if-t-ne0.false

pub returns : goal.returns
returns c = c.judge_events.ensures
