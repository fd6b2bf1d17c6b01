use mathlib.Core.Path.{◌∙◌}
use native.Mathlib.Omega.{arith}
use Rattle.read_event.proofs.Leaves.{in_only, row_put_lem, row_late, row_off, next_put, next_late, next_off}
use Rattle.read_event.proofs.rows.put_row.Goals as goal

pub get-requires : goal.get-requires
get-requires c =
    let a = c.args in (c.requires.0, in_only a.widths.now a.cells.now a.rows a.row c.requires.2 (omega arith), c.requires.1 c.if-on.true)

pub returns-then-row-rows : goal.returns-then-row-rows
returns-then-row-rows c = (c.get.ensures.1 ∙ row_put_lem _ _ _ _ _ _ c.if-on.true (omega arith), next_put _ _ _ c.if-on.true (omega arith))

pub returns-else-row-rows : goal.returns-else-row-rows
returns-else-row-rows c = (row_late _ _ _ _ _ _ c.if-on.true (omega arith), next_late _ _ _ c.if-on.true (omega arith))

pub returns-else-on : goal.returns-else-on
returns-else-on c = (row_off _ _ _ _ _ _ c.if-on.false, next_off _ _ _ c.if-on.false)
