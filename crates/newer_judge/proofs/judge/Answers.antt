use borrow.Author.Rules.{rules}
use mathlib.Core.Path.{subst}
use Rattle.read_judge.specs.Inner.{Verdicts}
use Rattle.newer_judge.proofs.Steps.{held_tells, refused_tells, refused_one}
use Rattle.newer_judge.proofs.judge.Goals as goal

pub judge_newer-requires : goal.judge_newer-requires
judge_newer-requires c =
    let a = c.args in
    let j = c.judge-v in
    refused_one a.file.now _ _ (subst (Verdicts a.file.now) c.in-Refused.is j.ensures) c.if-number-eq-VERSION_TOO_NEW.true

pub returns-else-number-eq-VERSION_TOO_NEW : goal.returns-else-number-eq-VERSION_TOO_NEW
returns-else-number-eq-VERSION_TOO_NEW c =
    let a = c.args in
    let j = c.judge-v in
    refused_tells a.file.now _ _ (subst (Verdicts a.file.now) c.in-Refused.is j.ensures) c.if-number-eq-VERSION_TOO_NEW.false

pub returns-in-Held : goal.returns-in-Held
returns-in-Held c =
    let a = c.args in
    let j = c.judge-v in
    held_tells a.file.now _ _ _ (subst (Verdicts a.file.now) c.in-Held.is j.ensures)

pub returns-then-number-eq-VERSION_TOO_NEW : goal.returns-then-number-eq-VERSION_TOO_NEW
returns-then-number-eq-VERSION_TOO_NEW c = c.judge_newer.ensures
