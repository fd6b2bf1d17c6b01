use mathlib.Core.Path.{◌≡◌, sym, ◌∙◌}
use mathlib.Core.Bool.{Bool, true, false}
use native.Mathlib.Omega.{arith}
use borrow.Author.Rules.{rules}
use Rattle.start.proofs.Lengths.{long_enough}
use Rattle.read_start.specs.Start.{ucf_if}
use Rattle.read_start.proofs.Parts.{chosen}
use Rattle.read_start.proofs.seat.ucf_in.Goals as goal

pub get_be-requires : goal.get_be-requires
get_be-requires c = (omega arith, omega (arith, c.requires, long_enough c.args.v 8 (sym c.reached.ensures ∙ c.if-reached.true)))

pub get_be-requires-then-reached : goal.get_be-requires-then-reached
get_be-requires-then-reached c = (omega arith, omega (arith, c.requires, long_enough c.args.v 8 (sym c.reached.ensures ∙ c.if-reached.true)))

pub returns-then-reached : goal.returns-then-reached
returns-then-reached c =
    let a = c.args in
    let read : record { given = 1; dash_back = c.get_be.result; shield_drop = c.get_be-then-reached.result } ≡ ucf_if true a.block.now a.n
    = λ i. record { given = 1; dash_back = c.get_be.ensures i; shield_drop = c.get_be-then-reached.ensures i } in
    read ∙ chosen (λ (on : Bool). ucf_if on a.block.now a.n) true c.reached.ensures c.if-reached.true

pub returns : goal.returns
returns c = let a = c.args in chosen (λ (on : Bool). ucf_if on a.block.now a.n) false c.reached.ensures c.if-reached.false
