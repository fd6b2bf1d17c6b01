use mathlib.Core.Path.{refl, sym}
use native.Mathlib.Omega.{arith}
use lib.Seq.{length-take-le}
use Rattle.check_table.proofs.Laws.{table_short, table_room_lem, written_front, written_within, table_as}
use Rattle.check_table.proofs.is_table.Goals as goal

pub put_table-n-requires : goal.put_table-n-requires
put_table-n-requires c = let a = c.args in (omega arith, table_room_lem _ a.v a.block a.given _ refl)

pub slice_bounds-table-end : goal.slice_bounds-table-end
slice_bounds-table-end c =
    let a = c.args in
    written_within _ _ _ _ (table_short a.v a.block a.given _) c.put_table-n.ensures

pub slice_bounds-starts_with-end-2 : goal.slice_bounds-starts_with-end-2
slice_bounds-starts_with-end-2 c =
    let a = c.args in
    sym (length-take-le _ _ (written_within _ _ _ _ (table_short a.v a.block a.given _) c.put_table-n.ensures))

pub returns : goal.returns
returns c =
    let a = c.args in
    let w = c.put_table-n in
    table_as _ w.new.out w.result a.v a.block a.given a.actual (written_front _ _ _ _ (table_short a.v a.block a.given _) c.put_table-n.ensures) _ c.starts_with.ensures.value
