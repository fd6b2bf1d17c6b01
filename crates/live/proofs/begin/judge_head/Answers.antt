-- `live::begin::judge_head` meets its contract: one test after another.
use mathlib.Core.Path.{sym, ◌∙◌}
use Rattle.format.proofs.Refusals.{skip, here, none}
use Rattle.ser.proofs.Laws.{codes_as}
use Rattle.live.specs.Head.{head_judged}
use Rattle.live.proofs.Laws.{new_none, too_new_lem, under, over}
use Rattle.live.proofs.begin.judge_head.Goals as goal

pub returns-then-given_bytes-gt16777216 : goal.returns-then-given_bytes-gt16777216
unfolding head_judged
returns-then-given_bytes-gt16777216 c = skip 1 _ _ _ (new_none _ c.accepted.ensures c.if-not-accepted.false) (here 2 _ _ (over _ c.given_bytes.ensures c.if-given_bytes-gt16777216.true))

pub returns-then-block_wrong : goal.returns-then-block_wrong
unfolding head_judged
returns-then-block_wrong c =
    skip 1 _ _ _ (new_none _ c.accepted.ensures c.if-not-accepted.false)
    (skip 2 _ _ _ (under _ c.given_bytes.ensures c.if-given_bytes-gt16777216.false)
    (here 8 _ _ (sym c.block_wrong.ensures ∙ c.if-block_wrong.true)))

pub returns-then-is_bad_start : goal.returns-then-is_bad_start
unfolding head_judged
returns-then-is_bad_start c =
    skip 1 _ _ _ (new_none _ c.accepted.ensures c.if-not-accepted.false)
    (skip 2 _ _ _ (under _ c.given_bytes.ensures c.if-given_bytes-gt16777216.false)
    (skip 8 _ _ _ (sym c.block_wrong.ensures ∙ c.if-block_wrong.false)
    (here 9 _ _ (sym c.is_bad_start.ensures ∙ c.if-is_bad_start.true))))

pub returns-then-codes_wrong : goal.returns-then-codes_wrong
unfolding head_judged
returns-then-codes_wrong c =
    skip 1 _ _ _ (new_none _ c.accepted.ensures c.if-not-accepted.false)
    (skip 2 _ _ _ (under _ c.given_bytes.ensures c.if-given_bytes-gt16777216.false)
    (skip 8 _ _ _ (sym c.block_wrong.ensures ∙ c.if-block_wrong.false)
    (skip 9 _ _ _ (sym c.is_bad_start.ensures ∙ c.if-is_bad_start.false)
    (here 10 _ _ (sym (codes_as _ _ _ _ _ c.codes_wrong.ensures c.is_given.ensures) ∙ c.if-codes_wrong.true)))))

pub returns : goal.returns
unfolding head_judged
returns c =
    skip 1 _ _ _ (new_none _ c.accepted.ensures c.if-not-accepted.false)
    (skip 2 _ _ _ (under _ c.given_bytes.ensures c.if-given_bytes-gt16777216.false)
    (skip 8 _ _ _ (sym c.block_wrong.ensures ∙ c.if-block_wrong.false)
    (skip 9 _ _ _ (sym c.is_bad_start.ensures ∙ c.if-is_bad_start.false)
    (skip 10 _ _ _ (sym (codes_as _ _ _ _ _ c.codes_wrong.ensures c.is_given.ensures) ∙ c.if-codes_wrong.false) none))))

pub returns-then-not-accepted : goal.returns-then-not-accepted
unfolding head_judged
returns-then-not-accepted c = here 1 _ _ (too_new_lem _ c.accepted.ensures c.if-not-accepted.true)
