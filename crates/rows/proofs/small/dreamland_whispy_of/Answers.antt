-- `rows::small::dreamland_whispy_of` meets its contract: the row, with what each call ensures in its field.
use Rattle.layout.specs.Columns.{columns_of}
use Rattle.rows.specs.Inner.{width_at}
use Rattle.rows.proofs.small.dreamland_whispy_of.Goals as goal

pub overflow_cast-result : goal.overflow_cast-result
unfolding width_at columns_of
overflow_cast-result c = record { fits = c.requires 0 }
