use mathlib.Core.Path.{sym, ◌∙◌}
use mathlib.Core.Bool.{Bool, true, false}
use borrow.Author.Rules.{rules}
use Rattle.read_start.specs.Start.{text_if}
use Rattle.read_start.proofs.Parts.{chosen}
use Rattle.read_start.proofs.text.text_if.Goals as goal

pub text_at-requires : goal.text_at-requires
text_at-requires c = (c.requires.0, c.requires.1 (sym c.reached.ensures ∙ c.if-reached.true))

pub returns-then-reached : goal.returns-then-reached
returns-then-reached c =
    let a = c.args in
    c.text_at.ensures ∙ chosen (λ (on : Bool). text_if on a.block.now a.at a.limit) true c.reached.ensures c.if-reached.true

pub returns : goal.returns
returns c = let a = c.args in chosen (λ (on : Bool). text_if on a.block.now a.at a.limit) false c.reached.ensures c.if-reached.false
