use mathlib.Core.Path.{refl}
use borrow.Author.Rules.{rules}
use Rattle.measure.proofs.Tails.{kind_in}
use Rattle.measure.proofs.tail.tail_kind.Goals as goal

pub returns : goal.returns
returns c = let a = c.args in kind_in a.file.now a.stop _ refl _ c.kind_of.ensures
