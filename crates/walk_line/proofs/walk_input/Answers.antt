use Rattle.walk_line.proofs.Laws.{too_long_lem, short_enough}
use Rattle.walk_line.proofs.walk_input.Goals as goal

pub returns-then-input-gt-LONGEST : goal.returns-then-input-gt-LONGEST
returns-then-input-gt-LONGEST c = too_long_lem _ c.if-input-gt-LONGEST.true

pub returns : goal.returns
returns c = short_enough _ _ c.if-input-gt-LONGEST.false c.walk.ensures
