-- `append::run::write_frame` meets its contract: frame i is the run from i up to i + 1.
use mathlib.Core.Path.{sym}
use native.Mathlib.Omega.{arith}
use Rattle.std.proofs.lemmas.Result.{err_from_is_err_and}
use Rattle.append.proofs.Outcomes.{inside_frames, beyond_frames, judged_refused, outside_refused}
use Rattle.append.proofs.run.write_frame.Goals as goal

pub returns-in_err-judge : goal.returns-in_err-judge
returns-in_err-judge c =
    let p = err_from_is_err_and c.from_residual.result c.from_residual.ensures.1 in rw (p.1, p.2) (judged_refused _ _ _ _ _ _ _ c.in_err-judge.ensures)

pub returns-then-f-i : goal.returns-then-f-i
returns-then-f-i c = outside_refused _ _ _ _ _ _ (sym c.in_ok-judge.ensures) (beyond_frames _ _ c.if-f-i.true)

pub put_run-requires : goal.put_run-requires
put_run-requires c = (sym c.in_ok-judge.ensures, inside_frames _ _ _ (omega arith) (omega (arith, c.if-f-i.false)))
