use mathlib.Core.Path.{sym, ◌∙◌}
use mathlib.Core.Bool.{Bool, true, false}
use native.Mathlib.Omega.{arith}
use borrow.Author.Rules.{rules}
use Rattle.start.proofs.Lengths.{long_enough}
use Rattle.read_start.specs.Start.{scene_if}
use Rattle.read_start.proofs.Parts.{chosen}
use Rattle.read_start.proofs.block.scene_in.Goals as goal

pub bounds-block-418 : goal.bounds-block-418
bounds-block-418 c = omega (arith, c.requires, long_enough c.args.v 4 (sym c.reached.ensures ∙ c.if-reached.true))

pub bounds-block-419 : goal.bounds-block-419
bounds-block-419 c = omega (arith, c.requires, long_enough c.args.v 4 (sym c.reached.ensures ∙ c.if-reached.true))

pub returns-then-reached : goal.returns-then-reached
returns-then-reached c = let a = c.args in chosen (λ (on : Bool). scene_if on a.block.now) true c.reached.ensures c.if-reached.true

pub returns : goal.returns
returns c = let a = c.args in chosen (λ (on : Bool). scene_if on a.block.now) false c.reached.ensures c.if-reached.false
