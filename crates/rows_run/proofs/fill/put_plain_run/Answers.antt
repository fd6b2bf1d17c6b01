use mathlib.Core.List.{[]}
use mathlib.Core.Path.{sym}
use native.Mathlib.Omega.{arith}
use Rattle.wire.proofs.Writers.{room_as, wrote_as}
use Rattle.rows_run.proofs.Runs.{plain_rows, rows_there_lem}
use Rattle.rows_run.proofs.fill.put_plain_run.Goals as goal

pub put_plain-requires : goal.put_plain-requires
put_plain-requires c =
    let er = c.rows-rows.ensures in
    let en = c.columns-n.ensures.0 in (
      room_as (sym (plain_rows _ _ _ _ er en [] _ _ c.requires.0)) c.requires.2,
      rows_there_lem _ _ _ _ c.requires.1 (omega (arith, c.well_formed)) er en,
      c.requires.1.range,
    )

pub returns : goal.returns
returns c = wrote_as (plain_rows _ _ _ _ c.rows-rows.ensures c.columns-n.ensures.0 [] _ _ c.requires.0) c.put_plain.ensures
