use mathlib.Core.Path.{◌≡◌, sym, ◌∙◌}
use mathlib.Core.Bool.{false}
use native.Mathlib.Omega.{arith}
use Rattle.format.proofs.Refusals.{skip, here, none}
use Rattle.transpose.specs.Answers.{unless_refused}
use Rattle.rows_run.specs.Run.{no_run}
use Rattle.rows_run.specs.Inner.{run_refused}
use Rattle.rows_run.proofs.Judged.{range, inside, run_fits, run_short, run_long}
use Rattle.rows_run.proofs.run.judge_run.Goals as goal
use Rattle.rows_run.proofs.run.judge_run.Goals.{Else-is_no_run}

pub returns-then-is_no_run : goal.returns-then-is_no_run
unfolding run_refused unless_refused
returns-then-is_no_run c = here _ _ _ (sym c.is_no_run.ensures ∙ c.if-is_no_run.true)

-- there is such a run
there : (c : Else-is_no_run) → let a = c.args in no_run a.f a.number a.slot a.a a.b ≡ false
there c = sym c.is_no_run.ensures ∙ c.if-is_no_run.false

pub overflow_sub-b : goal.overflow_sub-b
overflow_sub-b c = range _ _ _ _ _ (there c)

pub overflow_mul-b : goal.overflow_mul-b
overflow_mul-b c =
    let a = c.args in
    let e = there (goal.at.overflow_mul-b c).Else-is_no_run in
    omega (arith, run_fits a.a a.b _ c.row_length.result (inside _ _ _ _ _ e) c.requires c.row_length.ensures.1)

pub returns-then-room-b : goal.returns-then-room-b
unfolding run_refused unless_refused
returns-then-room-b c =
    let a = c.args in
    skip _ _ _ _ (there (goal.at.returns-then-room-b c).Else-is_no_run) (here _ _ _ (run_short a.f a.number a.a a.b a.room c.family_of.ensures c.row_length.ensures.0 c.if-room-b.true))

pub returns : goal.returns
unfolding run_refused unless_refused
returns c =
    let a = c.args in
    skip _ _ _ _ (there (goal.at.returns c).Else-is_no_run) (skip _ _ _ _ (run_long a.f a.number a.a a.b a.room c.family_of.ensures c.row_length.ensures.0 c.if-room-b.false) none)
