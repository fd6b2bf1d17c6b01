use mathlib.Core.Path.{sym, ◌∙◌}
use Rattle.head.proofs.Heads.{starts_same}
use Rattle.index_form.specs.Form.{index_mark}
use Rattle.index_form.proofs.Laws.{not_short, not_marked, by_length}
use Rattle.index_form.proofs.is_index.Goals as goal

pub returns-then-index-lt9 : goal.returns-then-index-lt9
returns-then-index-lt9 c = not_short _ c.if-index-lt9.true

pub returns-then-starts_with : goal.returns-then-starts_with
returns-then-starts_with c = by_length _ c.get_be.result c.get_be.ensures (sym c.if-starts_with.true ∙ c.starts_with.ensures.value ∙ starts_same index_mark c.args.index.now)

pub returns : goal.returns
returns c = not_marked _ (sym c.if-starts_with.false ∙ c.starts_with.ensures.value ∙ starts_same index_mark c.args.index.now)
