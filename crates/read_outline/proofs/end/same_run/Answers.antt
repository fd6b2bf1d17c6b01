use mathlib.Core.Path.{◌∙◌}
use Rattle.read_outline.proofs.Laws.{run_same}
use Rattle.read_outline.proofs.end.same_run.Goals as goal

pub returns : goal.returns
returns c = let a = c.args in c.eq.ensures ∙ run_same a.file.now a.a a.b a.n c.requires.0 c.requires.1
