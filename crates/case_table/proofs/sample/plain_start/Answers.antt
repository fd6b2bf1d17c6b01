use borrow.Author.Rules.{rules}
use mathlib.Core.Path.{ap₂}
use Rattle.case_table.specs.Games.{start_with}
use Rattle.case_table.proofs.sample.plain_start.Goals as goal

pub returns : goal.returns
returns c = ap₂ start_with c.no_seat-seat.ensures c.no_text.ensures
