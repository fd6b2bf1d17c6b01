use Rattle.std.proofs.lemmas.Result.{err_from_is_err_and}
use Rattle.final_file.proofs.Outcomes.{first_refused, range_refused, scratch_refused, none_refused}
use borrow.Author.Rules.{rules}
use Rattle.final_file.proofs.judge.judge.Goals as goal

pub returns-in_err-judge : goal.returns-in_err-judge
returns-in_err-judge c =
    let p = err_from_is_err_and c.from_residual.result c.from_residual.ensures.1 in rw (p.1, p.2) (first_refused _ _ _ _ c.in_err-judge.ensures)

pub returns-then-scratch_len-gt-COUNT : goal.returns-then-scratch_len-gt-COUNT
returns-then-scratch_len-gt-COUNT c =
    range_refused _ _ _ c.in_ok-judge.ensures _ c.scratch_len.ensures c.if-scratch_len-gt-COUNT.true

pub returns-then-scratch-stores : goal.returns-then-scratch-stores
returns-then-scratch-stores c =
    scratch_refused _ _ _ c.in_ok-judge.ensures _ c.scratch_len.ensures c.if-scratch_len-gt-COUNT.false c.if-scratch-stores.true

pub returns : goal.returns
returns c =
    none_refused _ _ _ c.in_ok-judge.ensures _ c.scratch_len.ensures c.if-scratch_len-gt-COUNT.false c.if-scratch-stores.false
