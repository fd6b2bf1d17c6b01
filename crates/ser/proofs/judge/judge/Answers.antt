-- `ser::judge::judge` meets its contract: one test after another.
use mathlib.Core.Path.{refl, sym, ◌∙◌}
use borrow.Author.Rules.{rules}
use Rattle.std.proofs.lemmas.Result.{err_from_is_err_and}
use Rattle.format.proofs.Numbers.{not_zero}
use Rattle.format.proofs.Refusals.{skip, here, none}
use Rattle.frames.proofs.Accepted.{numbered}
use Rattle.ser.specs.Write.{judged}
use Rattle.ser.proofs.Laws.{with_bytes, stopped, went_on, codes_as}
use Rattle.ser.proofs.judge.judge.Goals as goal

pub returns-in_err-judge : goal.returns-in_err-judge
unfolding judged
returns-in_err-judge c =
    let p = err_from_is_err_and c.from_residual.result c.from_residual.ensures.1 in
    rw (p.1, p.2) (stopped _ _ (with_bytes _ _ c.in_err-judge.ensures c.given_bytes.ensures c.given_bytes-2.ensures) (not_zero _))

pub returns-then-block_wrong : goal.returns-then-block_wrong
unfolding judged
returns-then-block_wrong c =
    went_on _ _ _ (with_bytes _ _ c.in_ok-judge.ensures c.given_bytes.ensures c.given_bytes-2.ensures) refl (numbered _ _ _ _) (here 8 _ _ (sym c.block_wrong.ensures ∙ c.if-block_wrong.true))

pub returns-then-is_bad_start : goal.returns-then-is_bad_start
unfolding judged
returns-then-is_bad_start c =
    went_on _ _ _ (with_bytes _ _ c.in_ok-judge.ensures c.given_bytes.ensures c.given_bytes-2.ensures) refl (numbered _ _ _ _)
    (skip 8 _ _ _ (sym c.block_wrong.ensures ∙ c.if-block_wrong.false)
    (here 9 _ _ (sym c.is_bad_start.ensures ∙ c.if-is_bad_start.true)))

pub returns-then-codes_wrong : goal.returns-then-codes_wrong
unfolding judged
returns-then-codes_wrong c =
    went_on _ _ _ (with_bytes _ _ c.in_ok-judge.ensures c.given_bytes.ensures c.given_bytes-2.ensures) refl (numbered _ _ _ _)
    (skip 8 _ _ _ (sym c.block_wrong.ensures ∙ c.if-block_wrong.false)
    (skip 9 _ _ _ (sym c.is_bad_start.ensures ∙ c.if-is_bad_start.false)
    (here 10 _ _ (sym (codes_as _ _ _ _ _ c.codes_wrong.ensures c.is_given.ensures) ∙ c.if-codes_wrong.true))))

pub returns-then-end_wrong : goal.returns-then-end_wrong
unfolding judged
returns-then-end_wrong c =
    went_on _ _ _ (with_bytes _ _ c.in_ok-judge.ensures c.given_bytes.ensures c.given_bytes-2.ensures) refl (numbered _ _ _ _)
    (skip 8 _ _ _ (sym c.block_wrong.ensures ∙ c.if-block_wrong.false)
    (skip 9 _ _ _ (sym c.is_bad_start.ensures ∙ c.if-is_bad_start.false)
    (skip 10 _ _ _ (sym (codes_as _ _ _ _ _ c.codes_wrong.ensures c.is_given.ensures) ∙ c.if-codes_wrong.false)
    (here 11 _ _ (sym c.end_wrong.ensures ∙ c.if-end_wrong.true)))))

pub returns : goal.returns
unfolding judged
returns c =
    went_on _ _ _ (with_bytes _ _ c.in_ok-judge.ensures c.given_bytes.ensures c.given_bytes-2.ensures) refl (numbered _ _ _ _)
    (skip 8 _ _ _ (sym c.block_wrong.ensures ∙ c.if-block_wrong.false)
    (skip 9 _ _ _ (sym c.is_bad_start.ensures ∙ c.if-is_bad_start.false)
    (skip 10 _ _ _ (sym (codes_as _ _ _ _ _ c.codes_wrong.ensures c.is_given.ensures) ∙ c.if-codes_wrong.false)
    (skip 11 _ _ _ (sym c.end_wrong.ensures ∙ c.if-end_wrong.false) none))))
