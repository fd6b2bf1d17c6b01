use mathlib.Core.Path.{refl, sym}
use mathlib.Core.Bool.{Bool, true, false}
use borrow.Author.Rules.{rules}
use Rattle.format.proofs.Tests.{a_mark, no_mark}
use Rattle.read_start.specs.Start.{team_if}
use Rattle.read_start.proofs.Parts.{chosen}
use Rattle.read_start.proofs.seat.team_in.Goals as goal

pub returns-then-block-ne0 : goal.returns-then-block-ne0
returns-then-block-ne0 c = let a = c.args in chosen (λ (b : Bool). team_if b a.block.now a.at) true (sym (a_mark _ c.if-block-ne0.true)) refl

pub returns : goal.returns
returns c = let a = c.args in chosen (λ (b : Bool). team_if b a.block.now a.at) false (sym (no_mark _ c.if-block-ne0.false)) refl
