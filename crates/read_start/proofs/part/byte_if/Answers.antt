use mathlib.Core.Path.{sym, ◌∙◌}
use mathlib.Core.Bool.{Bool, true, false}
use native.Mathlib.Omega.{arith}
use borrow.Author.Rules.{rules}
use Rattle.read_start.specs.Start.{byte_at, optional_if}
use Rattle.read_start.proofs.Parts.{chosen}
use Rattle.read_start.proofs.part.byte_if.Goals as goal

pub bounds-block-at : goal.bounds-block-at
bounds-block-at c = omega (arith, c.requires (sym c.reached.ensures ∙ c.if-reached.true))

pub returns-then-reached : goal.returns-then-reached
returns-then-reached c = let a = c.args in chosen (λ (on : Bool). optional_if on (byte_at a.block.now a.at)) true c.reached.ensures c.if-reached.true

pub returns : goal.returns
returns c = let a = c.args in chosen (λ (on : Bool). optional_if on (byte_at a.block.now a.at)) false c.reached.ensures c.if-reached.false
