use borrow.Author.Rules.{rules}
use mathlib.Core.Path.{refl}
use Rattle.game.specs.Frames.{is_marked}
use Rattle.measure.proofs.lengths.is_marked.Goals as goal

pub returns : goal.returns
unfolding is_marked
returns c = refl
