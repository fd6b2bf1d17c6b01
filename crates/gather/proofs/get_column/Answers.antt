-- `gather::get_column` meets its contract: each width by itself.
use native.Mathlib.Omega.{arith}
use lib.Dec.{lit≤}
use Rattle.gather.proofs.Laws.{column_as}
use Rattle.gather.proofs.get_column.Goals as goal

pub get_whole-requires : goal.get_whole-requires
get_whole-requires c = let h = c.requires in (lit≤ tt, h.2, h.3, λ t l. omega (arith, h.4 t l, c.if-width-eq4.true))

pub returns-then-width-eq4 : goal.returns-then-width-eq4
returns-then-width-eq4 c = column_as _ _ _ _ _ _ _ _ _ c.if-width-eq4.true c.get_whole.ensures

pub get_whole-requires-then-width-eq1 : goal.get_whole-requires-then-width-eq1
get_whole-requires-then-width-eq1 c = let h = c.requires in (lit≤ tt, h.2, h.3, λ t l. omega (arith, h.4 t l, c.if-width-eq1.true))

pub returns-then-width-eq1 : goal.returns-then-width-eq1
returns-then-width-eq1 c = column_as _ _ _ _ _ _ _ _ _ c.if-width-eq1.true c.get_whole-then-width-eq1.ensures
