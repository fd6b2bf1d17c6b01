-- `final_rows::sizes::frame_len` meets its contract: the parts, added up.
use Prim.Native.Nat.{◌*◌, ◌≤◌}
use native.Mathlib.Nat.{mul-le-mul}
use native.Mathlib.Omega.{arith}
use Rattle.game.specs.Stores.{offsets}
use Rattle.game.specs.Held.{offsets_in}
use Rattle.final_rows.proofs.Lengths.{frame_adds}
use Rattle.final_rows.proofs.sizes.frame_len.Goals as goal
use Rattle.final_rows.proofs.sizes.frame_len.Goals.{After-struct_known-1}

players : (c : After-struct_known-1) → let a = c.args in
    c.players_in-players.result * a.z.player ≤ 4096
players c = mul-le-mul c.players_in-players.ensures.1 c.requires.2.small.1

pub overflow_mul-result : goal.overflow_mul-result
overflow_mul-result c =
    omega (arith, players c)

pub overflow_add-result-4 : goal.overflow_add-result-4
overflow_add-result-4 c =
    omega (arith, players c, c.rows_len-fods.ensures.1, c.rows_len-whispys.ensures.1, c.rows_len-stadiums.ensures.1, c.rows_len-items.ensures.1)

pub overflow_add-result-5 : goal.overflow_add-result-5
overflow_add-result-5 c =
    omega (arith, players (goal.at.overflow_add-result-5 c).After-struct_known-1, c.requires.2.small, c.rows_len-fods.ensures.1, c.rows_len-whispys.ensures.1, c.rows_len-stadiums.ensures.1, c.rows_len-items.ensures.1)

pub returns : goal.returns
returns c =
    let a = c.args in
    frame_adds a.f (offsets_in a.offsets.now) a.presence.now a.i a.z _ _ _ _ _ c.requires.2
    c.players_in-players.ensures.0 c.rows_len-fods.ensures.0 c.rows_len-whispys.ensures.0 c.rows_len-stadiums.ensures.0 c.rows_len-items.ensures.0
