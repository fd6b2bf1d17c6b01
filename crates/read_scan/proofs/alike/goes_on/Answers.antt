use mathlib.Core.Path.{sym, ◌∙◌}
use Rattle.format.proofs.Versions.{no_way}
use Rattle.read_scan.proofs.alike.goes_on.Goals as goal

pub eight_alike-requires : goal.eight_alike-requires
eight_alike-requires c = c.requires

pub returns-then-is_closed : goal.returns-then-is_closed
returns-then-is_closed c = λ e. (sym c.is_closed.ensures ∙ c.if-is_closed.true, c.eight_alike.ensures e)

pub returns-else-is_closed : goal.returns-else-is_closed
returns-else-is_closed c = no_way

pub returns-else-code-eq-FRAME_START : goal.returns-else-code-eq-FRAME_START
returns-else-code-eq-FRAME_START c = no_way
