use borrow.Author.Rules.{rules}
use mathlib.Core.Path.{sym, ap, ◌∙◌}
use Rattle.de.specs.Numbers.{WalkNumbers}
use Rattle.read_judge.proofs.Steps.{kind_done}
use Rattle.check_file.proofs.Laws.{walk_refused, answer_as}
use Rattle.check_file.proofs.unless_walk_refused.Goals as goal

pub returns-in-Refused : goal.returns-in-Refused
returns-in-Refused c =
    let w = c.walk-w in
    walk_refused c.args.file.now w.result _ _ w.ensures c.in-Refused.is

pub returns-in-Done : goal.returns-in-Done
returns-in-Done c =
    let w = c.walk-w in
    answer_as c.args.file.now c.answered.result _ c.answered.ensures
    (c.requires (sym (ap (λ (n : WalkNumbers). n.kind) w.ensures) ∙ kind_done w.result _ _ _ _ c.in-Done.is))
