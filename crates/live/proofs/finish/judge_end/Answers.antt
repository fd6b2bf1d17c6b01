-- `live::finish::judge_end` meets its contract: one test after another.
use mathlib.Core.Path.{sym, ◌∙◌}
use Rattle.format.proofs.Refusals.{skip, here, none}
use Rattle.live.specs.End.{end_judged}
use Rattle.live.proofs.Laws.{new_none, too_new_lem, under, over}
use Rattle.live.proofs.finish.judge_end.Goals as goal

pub returns-then-given_bytes-gt65535 : goal.returns-then-given_bytes-gt65535
unfolding end_judged
returns-then-given_bytes-gt65535 c = skip 1 _ _ _ (new_none _ c.accepted.ensures c.if-not-accepted.false) (here 2 _ _ (over _ c.given_bytes.ensures c.if-given_bytes-gt65535.true))

pub returns-then-end_wrong : goal.returns-then-end_wrong
unfolding end_judged
returns-then-end_wrong c =
    skip 1 _ _ _ (new_none _ c.accepted.ensures c.if-not-accepted.false)
    (skip 2 _ _ _ (under _ c.given_bytes.ensures c.if-given_bytes-gt65535.false)
    (here 11 _ _ (sym c.end_wrong.ensures ∙ c.if-end_wrong.true)))

pub returns : goal.returns
unfolding end_judged
returns c =
    skip 1 _ _ _ (new_none _ c.accepted.ensures c.if-not-accepted.false)
    (skip 2 _ _ _ (under _ c.given_bytes.ensures c.if-given_bytes-gt65535.false)
    (skip 11 _ _ _ (sym c.end_wrong.ensures ∙ c.if-end_wrong.false) none))

pub returns-then-not-accepted : goal.returns-then-not-accepted
unfolding end_judged
returns-then-not-accepted c = here 1 _ _ (too_new_lem _ c.accepted.ensures c.if-not-accepted.true)
