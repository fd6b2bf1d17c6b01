use mathlib.Core.Path.{refl}
use Rattle.newer_rows.specs.Inner.{is_row}
use Rattle.newer_rows.proofs.Passing.{row_below}
use Rattle.newer_rows.proofs.pass.is_row.Goals as goal

pub returns-then-code-lt-FRAME_START : goal.returns-then-code-lt-FRAME_START
returns-then-code-lt-FRAME_START c = row_below _ c.if-code-lt-FRAME_START.true

pub returns : goal.returns
unfolding is_row
returns c = refl
