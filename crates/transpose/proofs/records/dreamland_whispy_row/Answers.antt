use mathlib.Core.Path.{◌∙◌}
use Rattle.transpose.specs.Answers.{dreamland_whispy_answer}
use Rattle.transpose.proofs.Judged.{row_judged, reachable}
use Rattle.transpose.proofs.Shown.{none_refused, answered}
use Rattle.transpose.proofs.records.dreamland_whispy_row.Goals as goal

pub dreamland_whispy_at-row-requires : goal.dreamland_whispy_at-row-requires
dreamland_whispy_at-row-requires c = λ e. reachable _ _ _ _ _ (none_refused _ (c.place_judged-judged.ensures ∙ row_judged _ _ _ _ _ _ c.judge.ensures) c.is_ok.ensures.value e)

pub returns : goal.returns
returns c = answered dreamland_whispy_answer _ (c.place_judged-judged.ensures ∙ row_judged _ _ _ _ _ _ c.judge.ensures) c.is_ok.ensures.value _ _ c.number_in.ensures c.dreamland_whispy_at-row.ensures
