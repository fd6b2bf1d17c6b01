use borrow.Author.Rules.{rules}
use mathlib.Core.Path.{ap₂}
use Rattle.game.specs.declared.frames.Frames.{Frames}
use Rattle.game.specs.declared.start.Start.{Start}
use Rattle.case_table.specs.Games.{game_with}
use Rattle.case_table.proofs.sample.game.Goals as goal

pub returns : goal.returns
returns c =
    let a = c.args in
    ap₂ (λ (f : Frames) (s : Start). game_with f s a.end a.codes a.actual) c.plain_frames.ensures c.plain_start.ensures
