use borrow.Author.Rules.{rules}
use borrow.Author.Tests.{eq-eqb, ne_eqb}
use Rattle.read_start.specs.Start.{seat_in}
use Rattle.read_start.proofs.seat.seat_in.Goals as goal

pub returns-then-block-n-eq3 : goal.returns-then-block-n-eq3
unfolding seat_in
returns-then-block-n-eq3 c = rw (eq-eqb _ 3 c.if-block-n-eq3.true) c.no_seat.ensures

pub returns : goal.returns
unfolding seat_in
returns c = rw (ne_eqb _ 3 c.if-block-n-eq3.false) c.player_in.ensures
