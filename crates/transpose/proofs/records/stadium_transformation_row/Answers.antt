use mathlib.Core.Path.{◌∙◌}
use Rattle.transpose.specs.Answers.{stadium_transformation_answer}
use Rattle.transpose.proofs.Judged.{row_judged, reachable}
use Rattle.transpose.proofs.Shown.{none_refused, answered}
use Rattle.transpose.proofs.records.stadium_transformation_row.Goals as goal

pub stadium_transformation_at-row-requires : goal.stadium_transformation_at-row-requires
stadium_transformation_at-row-requires c = λ e. reachable _ _ _ _ _ (none_refused _ (c.place_judged-judged.ensures ∙ row_judged _ _ _ _ _ _ c.judge.ensures) c.is_ok.ensures.value e)

pub returns : goal.returns
returns c = answered stadium_transformation_answer _ (c.place_judged-judged.ensures ∙ row_judged _ _ _ _ _ _ c.judge.ensures) c.is_ok.ensures.value _ _ c.number_in.ensures c.stadium_transformation_at-row.ensures
