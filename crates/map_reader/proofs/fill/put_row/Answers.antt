use native.Mathlib.Omega.{arith}
use lib.ListN.{length-set}
use Rattle.map_reader.proofs.Fills.{wrote_5}
use Rattle.map_reader.proofs.fill.put_row.Goals as goal

pub bounds-rows-at-2 : goal.bounds-rows-at-2
bounds-rows-at-2 c = simp length-set (omega arith)

pub bounds-rows-at-3 : goal.bounds-rows-at-3
bounds-rows-at-3 c = simp length-set (omega arith)

pub bounds-rows-at-4 : goal.bounds-rows-at-4
bounds-rows-at-4 c = simp length-set (omega arith)

pub bounds-rows-at-5 : goal.bounds-rows-at-5
bounds-rows-at-5 c = simp length-set (omega arith)

pub returns : goal.returns
returns c = wrote_5 _ _ _ _ _ _ _
