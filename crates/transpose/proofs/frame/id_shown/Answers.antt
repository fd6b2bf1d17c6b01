use mathlib.Core.Path.{◌∙◌}
use native.Mathlib.Omega.{arith}
use lib.IntN.{pos}
use lib.ListN.{get_or}
use Rattle.rows.proofs.Records.{cell_field}
use Rattle.transpose.proofs.Shown.{shown_row, shown_none}
use Rattle.transpose.proofs.frame.id_shown.Goals as goal

pub offset_bounds-ids-index : goal.offset_bounds-ids-index
offset_bounds-ids-index c = omega (arith, c.requires c.if-shown.true, c.well_formed.0)

pub bounds-ids-index : goal.bounds-ids-index
bounds-ids-index c = omega (arith, c.requires c.if-shown.true)

pub returns-then-shown : goal.returns-then-shown
returns-then-shown c =
    let a = c.args in
    cell_field (get_or a.ids.now a.index 0) (record { sfits = c.signed32.type_inv }) c.signed32.ensures ∙ shown_row _ _ (pos 0) c.if-shown.true

pub returns : goal.returns
returns c = shown_none _ _ _ c.if-shown.false
