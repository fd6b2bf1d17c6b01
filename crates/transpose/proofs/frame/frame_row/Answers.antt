use mathlib.Core.Path.{◌∙◌}
use Rattle.transpose.specs.Answers.{frame_answer}
use Rattle.transpose.proofs.Judged.{row_judged, showable}
use Rattle.transpose.proofs.Shown.{none_refused, answered}
use Rattle.transpose.proofs.frame.frame_row.Goals as goal

pub frame_at-row-requires : goal.frame_at-row-requires
frame_at-row-requires c = λ e. showable _ _ _ (none_refused _ (c.place_judged-judged.ensures ∙ row_judged _ _ _ _ _ _ c.judge.ensures) c.is_ok.ensures.value e)

pub returns : goal.returns
returns c = answered frame_answer _ (c.place_judged-judged.ensures ∙ row_judged _ _ _ _ _ _ c.judge.ensures) c.is_ok.ensures.value _ _ c.number_in.ensures c.frame_at-row.ensures
