use borrow.Author.Rules.{rules}
use Rattle.measure.proofs.Outcomes.{refuses, accepts, not_measured}
use Rattle.measure.proofs.measuring.measure.Goals as goal

pub measure_held-requires : goal.measure_held-requires
measure_held-requires c =
    let j = c.judge-v in
    accepts _ j.result _ _ _ c.in-Held.is j.ensures

pub returns-in-Refused : goal.returns-in-Refused
returns-in-Refused c =
    let j = c.judge-v in
    not_measured _ _ _ _ (refuses _ j.result _ _ c.in-Refused.is j.ensures) c.not_measured.ensures
