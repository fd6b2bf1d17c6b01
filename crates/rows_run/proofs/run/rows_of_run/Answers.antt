use mathlib.Core.Path.{sym, ap, ◌∙◌}
use Rattle.frames.proofs.Accepted.{accepted}
use Rattle.wire.proofs.Writers.{wrote_length}
use Rattle.format.specs.Refused.{number_in}
use Rattle.rows_run.specs.Run.{family_at}
use Rattle.rows_run.proofs.Runs.{few_rows}
use Rattle.rows_run.proofs.Numbers.{some_number}
use Rattle.rows_run.proofs.Judged.{first_refuses, rest_decides}
use Rattle.rows_run.proofs.Outcomes.{refused_run, run_running, run_has_room, written_run}
use Rattle.rows_run.proofs.run.rows_of_run.Goals as goal

-- the game is refused
pub returns-in-Err : goal.returns-in-Err
returns-in-Err c =
    let told = ap number_in (sym c.in-Err.is) ∙ c.judge.ensures in
    let some = some_number c.in-Err.why c.number.ensures in
    refused_run _ _ _ _ _ _ _ (first_refuses _ _ _ _ _ _ _ _ (c.number.ensures ∙ told) some) some

pub judge_run-requires : goal.judge_run-requires
judge_run-requires c =
    let a = c.args in
    let judged = ap number_in (sym c.in_default.is) ∙ c.judge.ensures in
    few_rows a.f (family_at a.family) (accepted _ _ 0 0 (sym judged)).modest

pub shape_of-out : goal.shape_of-out
shape_of-out c = wrote_length c.put_run-len.ensures

-- the run is refused
pub returns-in-Err-judge_run : goal.returns-in-Err-judge_run
returns-in-Err-judge_run c =
    let judged = ap number_in (sym c.in_default.is) ∙ c.judge.ensures in
    let told = ap number_in (sym c.in-Err-judge_run.is) ∙ c.judge_run.ensures in
    refused_run _ _ _ _ _ _ _ (c.number-in-Err-judge_run.ensures ∙ rest_decides _ _ _ _ _ _ _ judged told) (some_number c.in-Err-judge_run.why c.number-in-Err-judge_run.ensures)

pub put_run-len-requires : goal.put_run-len-requires
put_run-len-requires c =
    let judged = ap number_in (sym c.in_default.is) ∙ c.judge.ensures in
    let told = ap number_in (sym c.in_default-judge_run.is) ∙ c.judge_run.ensures in
    let z = sym (rest_decides _ _ _ _ _ _ _ judged told) in
    let a = c.args in
    (run_running a.f _ a.family a.slot a.a a.b a.out.now z _ c.family_of.ensures, run_has_room a.f _ a.family a.slot a.a a.b a.out.now z _ c.family_of.ensures)

pub returns : goal.returns
returns c =
    let judged = ap number_in (sym c.in_default.is) ∙ c.judge.ensures in
    let told = ap number_in (sym c.in_default-judge_run.is) ∙ c.judge_run.ensures in
    let z = sym (rest_decides _ _ _ _ _ _ _ judged told) in
    let a = c.args in
    written_run a.f _ a.family a.slot a.a a.b a.out.now z _ c.family_of.ensures c.put_run-len.ensures
