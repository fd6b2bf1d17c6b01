use mathlib.Core.Path.{sym}
use Prim.Native.Nat.{◌<◌}
use native.Mathlib.Omega.{arith}
use Rattle.wire.proofs.Writers.{room_as, wrote_as}
use Rattle.rows_run.proofs.Runs.{slot_is, mark_same, player_rows, rows_there_lem}
use Rattle.rows_run.proofs.fill.put_player_run.Goals as goal
use Rattle.rows_run.proofs.fill.put_player_run.Goals.{After-put_players-arg-1}

-- the slot is one of those held
held : (c : After-put_players-arg-1) → c.args.slot < c.slots_of-s.result.count
held c =
    omega (arith, slot_is c.requires.0 c.requires.1, c.slots_of-s.ensures.count)

pub put_players-requires : goal.put_players-requires
put_players-requires c =
    let er = c.rows-rows.ensures in
    let en = c.columns-n.ensures.0 in
    let slots = c.slots_of-s in (
      room_as (sym (player_rows _ _ _ _ er en _ _ _ _ _ c.requires.0 (mark_same _ slots.result slots.ensures _ _ (held (goal.at.put_players-requires c).After-put_players-arg-1)))) c.requires.2,
      rows_there_lem _ _ _ _ c.requires.1 (omega (arith, c.well_formed)) er en,
      c.requires.1.range,
    )

pub returns : goal.returns
returns c =
    let slots = c.slots_of-s in
    wrote_as (player_rows _ _ _ _ c.rows-rows.ensures c.columns-n.ensures.0 _ _ _ _ _ c.requires.0 (mark_same _ slots.result slots.ensures _ _ (held ((goal.at.returns c).After-put_players-arg-1)))) c.put_players.ensures
