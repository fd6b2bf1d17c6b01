use Rattle.case_calls.proofs.RowLaws.{same_game}
use Rattle.case_calls.proofs.run.write_least.Goals as goal

pub returns : goal.returns
returns c = same_game c.game-g.ensures (rw c.template_alone-stores.ensures at c.write_row.ensures)
