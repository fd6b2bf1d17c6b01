-- `names::columns::nth` meets its contract: a family's columns are a part of the table.
use mathlib.Core.Path.{◌∙◌}
use native.Mathlib.Omega.{arith}
use Rattle.layout.specs.Columns.{columns_of}
use Rattle.layout.specs.Inner.{table}
use Rattle.layout.proofs.Laws.{packed, unpacked, fits, count_is, column_in}
use Rattle.names.proofs.columns.nth.Goals as goal

pub returns : goal.returns
unfolding packed table columns_of
returns c =
    c.column_of.ensures ∙ column_in (packed table) unpacked c.args.f c.first.result c.args.n c.first.ensures (omega (arith, c.requires, count_is c.args.f))

pub overflow_add-first : goal.overflow_add-first
overflow_add-first c = omega (arith, fits c.args.f, count_is c.args.f, c.first.ensures, c.requires)

pub offset_bounds-all-first : goal.offset_bounds-all-first
offset_bounds-all-first c = omega (arith, fits c.args.f, count_is c.args.f, c.first.ensures, c.requires)

pub bounds-all-first : goal.bounds-all-first
bounds-all-first c = omega (arith, fits c.args.f, count_is c.args.f, c.first.ensures, c.requires)
