-- `layout::listing::columns` meets its contract: the code's table is the definition's.
use Rattle.layout.specs.Columns.{columns_of}
use Rattle.layout.specs.Inner.{table}
use Rattle.layout.proofs.Laws.{packed, unpacked}
use Rattle.layout.proofs.listing.columns.Goals as goal

pub had-requires : goal.had-requires
unfolding packed table columns_of
had-requires c = unpacked
