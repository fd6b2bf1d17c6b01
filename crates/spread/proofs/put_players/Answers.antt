use native.Mathlib.Omega.{arith}
use Rattle.spread.proofs.Laws.{pair_long, players_given, players_none}
use Rattle.spread.proofs.put_players.Goals as goal

pub put_same-requires : goal.put_same-requires
put_same-requires c = (c.requires.0, λ t l. omega (arith, c.requires.1 t l, pair_long c.args.h c.if-h.true))

pub returns-then-h : goal.returns-then-h
returns-then-h c = players_given c.args.h c.if-h.true c.put_same.ensures

pub returns-else-h : goal.returns-else-h
returns-else-h c = players_none _ _ c.args.h c.if-h.false
