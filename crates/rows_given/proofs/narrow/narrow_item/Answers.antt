-- `rows_given::narrow::narrow_item` meets its contract: each cell by the width of its column.
use mathlib.Core.Path.{refl}
use Rattle.wire.specs.Wire.{tabulate}
use Rattle.layout.specs.Columns.{columns_of}
use Rattle.rows.specs.Inner.{width_at}
use Rattle.rows_given.specs.Inner.{narrowed}
use Rattle.rows_given.proofs.narrow.narrow_item.Goals as goal

pub returns : goal.returns
unfolding narrowed tabulate width_at columns_of
returns c = refl
