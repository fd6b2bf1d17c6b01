use mathlib.Core.Path.{sym, ◌∙◌}
use Rattle.std.proofs.lemmas.Result.{err_from_is_err_and}
use Rattle.append.proofs.Outcomes.{judged_refused, outside_refused}
use Rattle.append.proofs.run.write_frames.Goals as goal

pub returns-in_err-judge : goal.returns-in_err-judge
returns-in_err-judge c =
    let p = err_from_is_err_and c.from_residual.result c.from_residual.ensures.1 in rw (p.1, p.2) (judged_refused _ _ _ _ _ _ _ c.in_err-judge.ensures)

pub returns-then-is_outside : goal.returns-then-is_outside
returns-then-is_outside c = outside_refused _ _ _ _ _ _ (sym c.in_ok-judge.ensures) (sym c.is_outside.ensures ∙ c.if-is_outside.true)

pub put_run-requires : goal.put_run-requires
put_run-requires c = (sym c.in_ok-judge.ensures, sym c.is_outside.ensures ∙ c.if-is_outside.false)
