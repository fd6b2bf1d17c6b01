use mathlib.Core.Path.{refl, ◌∙◌}
use Rattle.rows.specs.Rows.{no_cells, no_version, post_of}
use Rattle.transpose.specs.Answers.{post_answer}
use Rattle.transpose.proofs.Judged.{row_judged, reachable, attending}
use Rattle.transpose.proofs.Shown.{none_refused, answered, mark_shown}
use Rattle.transpose.proofs.records.post_row.Goals as goal

pub mark_at-mark-requires : goal.mark_at-mark-requires
mark_at-mark-requires c = λ e. attending _ _ _ _ _ (none_refused _ (c.place_judged-judged.ensures ∙ row_judged _ _ _ _ _ _ c.judge.ensures) c.is_ok-shown.ensures.value e) refl

pub post_at-row-requires : goal.post_at-row-requires
post_at-row-requires c = λ e. reachable _ _ _ _ _ (none_refused _ (c.place_judged-judged.ensures ∙ row_judged _ _ _ _ _ _ c.judge.ensures) c.is_ok-shown.ensures.value e)

pub returns : goal.returns
returns c =
    answered post_answer _ (c.place_judged-judged.ensures ∙ row_judged _ _ _ _ _ _ c.judge.ensures) c.is_ok-shown.ensures.value _ _ c.number_in.ensures
    (c.post_at-row.ensures ∙ mark_shown (post_of _ _) (post_of no_cells no_version) _ _ c.mark_at-mark.ensures)
