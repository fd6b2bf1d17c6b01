use native.Mathlib.Omega.{arith}
use mathlib.Core.Path.{◌∙◌}
use Rattle.read_outline.proofs.Laws.{codes_some, codes_other, codes_none}
use Rattle.read_outline.proofs.codes.Goals as goal

pub returns-then-file-first-eq-MESSAGE_SPLITTER : goal.returns-then-file-first-eq-MESSAGE_SPLITTER
returns-then-file-first-eq-MESSAGE_SPLITTER c = c.blocks-then-file-first-eq-MESSAGE_SPLITTER.ensures ∙ codes_some _ _ _ _ _ (omega arith) (omega arith)

pub returns-else-file-first-eq-MESSAGE_SPLITTER : goal.returns-else-file-first-eq-MESSAGE_SPLITTER
returns-else-file-first-eq-MESSAGE_SPLITTER c = codes_other _ _ _ _ _ (omega arith) c.if-file-first-eq-MESSAGE_SPLITTER.false

pub returns-else-first-stop : goal.returns-else-first-stop
returns-else-first-stop c = codes_none _ _ _ _ _ c.if-first-stop.false
