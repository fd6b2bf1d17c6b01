-- `spread::put_heads` meets its contract: part by part.
use Prim.Native.Nat.{◌+◌}
use native.Mathlib.Omega.{arith}
use lib.ListN.{length}
use Rattle.record.specs.Record.{player_bytes}
use Rattle.spread.specs.Inner.{Reach}
use Rattle.spread.proofs.Laws.{heads_room, heads_strewn, strewn_length}
use Rattle.spread.proofs.put_heads.Goals as goal
use Rattle.spread.proofs.put_heads.Goals.{Start}

-- room for a head at each place, as numbers
room : (c : Start) → let a = c.args in Reach a.out.now a.places.now a.i (a.off + (5 + length (player_bytes a.h)))
room c = let a = c.args in heads_room a.h a.ids.now a.j a.places.now a.i a.off c.requires.2

pub put_same-requires : goal.put_same-requires
put_same-requires c = (c.requires.1, λ t l. omega (arith, room (goal.at.put_same-requires c).Start t l))

pub put_column-requires : goal.put_column-requires
put_column-requires c = (c.requires.0, c.requires.1, λ t l. omega (arith, room (goal.at.put_column-requires c).Start t l, strewn_length 8 c.put_same.ensures))

pub put_players-requires : goal.put_players-requires
put_players-requires c =
    (c.requires.1, λ t l. omega (arith, room (goal.at.put_players-requires c).Start t l, strewn_length 8 c.put_same.ensures, strewn_length 8 c.put_column.ensures))

pub shape_of-out : goal.shape_of-out
shape_of-out c = omega (arith, c.put_same.auto.out, c.put_column.auto.out, c.put_players.auto.out)

pub returns : goal.returns
returns c =
    let a = c.args in
    heads_strewn a.h a.ids.now a.j a.places.now a.i a.off c.requires.2 c.put_same.ensures c.put_column.ensures c.put_players.ensures

pub overflow_add-off : goal.overflow_add-off
overflow_add-off c = omega (arith, room (goal.at.overflow_add-off c).Start 0 (omega arith), c.well_formed)

pub overflow_add-off-2 : goal.overflow_add-off-2
overflow_add-off-2 c = omega (arith, room (goal.at.overflow_add-off-2 c).Start 0 (omega arith), c.well_formed)
