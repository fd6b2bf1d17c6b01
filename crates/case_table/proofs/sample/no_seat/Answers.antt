use borrow.Author.Rules.{rules}
use mathlib.Core.Path.{ap}
use Rattle.game.specs.Zero.{seat_with}
use Rattle.case_table.proofs.sample.no_seat.Goals as goal

pub returns : goal.returns
returns c = ap seat_with c.no_text-text.ensures
