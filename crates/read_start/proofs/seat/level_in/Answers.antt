use mathlib.Core.Path.{refl, sym}
use mathlib.Core.Bool.{Bool, true, false}
use Prim.Native.Nat.{◌+◌}
use borrow.Author.Tests.{eq-eqb, ne_eqb}
use borrow.Author.Rules.{rules}
use Rattle.read_start.specs.Start.{byte_at, optional_if}
use Rattle.read_start.proofs.Parts.{chosen}
use Rattle.read_start.proofs.seat.level_in.Goals as goal

pub returns-then-block-at-eq1 : goal.returns-then-block-at-eq1
returns-then-block-at-eq1 c =
    let a = c.args in
    chosen (λ (b : Bool). optional_if b (byte_at a.block.now (a.at + 15))) true (sym (eq-eqb _ 1 c.if-block-at-eq1.true)) refl

pub returns : goal.returns
returns c =
    let a = c.args in
    chosen (λ (b : Bool). optional_if b (byte_at a.block.now (a.at + 15))) false (sym (ne_eqb _ 1 c.if-block-at-eq1.false)) refl
