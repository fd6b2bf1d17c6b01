use mathlib.Core.Path.{◌≡◌, sym, ◌∙◌}
use mathlib.Core.Bool.{Bool, true, false}
use native.Mathlib.Omega.{arith}
use borrow.Author.Rules.{rules}
use Rattle.start.proofs.Lengths.{long_enough}
use Rattle.read_start.specs.Start.{match_if}
use Rattle.read_start.proofs.Parts.{chosen}
use Rattle.read_start.proofs.block.match_in.Goals as goal

pub text_at-requires : goal.text_at-requires
text_at-requires c = (omega arith, omega (arith, c.requires, long_enough c.args.v 0 (sym c.reached.ensures ∙ c.if-reached.true)))

pub get_be-requires : goal.get_be-requires
get_be-requires c = (omega arith, omega (arith, c.requires, long_enough c.args.v 0 (sym c.reached.ensures ∙ c.if-reached.true)))

pub get_be-requires-then-reached : goal.get_be-requires-then-reached
get_be-requires-then-reached c = (omega arith, omega (arith, c.requires, long_enough c.args.v 0 (sym c.reached.ensures ∙ c.if-reached.true)))

pub returns-then-reached : goal.returns-then-reached
returns-then-reached c =
    let a = c.args in
    let read : record { given = 1; tail = 1; id = c.text_at.result; game = c.get_be.result; tiebreaker = c.get_be-then-reached.result } ≡ match_if true a.block.now
    = λ i. record { given = 1; tail = 1; id = c.text_at.ensures i; game = c.get_be.ensures i; tiebreaker = c.get_be-then-reached.ensures i } in
    read ∙ chosen (λ (on : Bool). match_if on a.block.now) true c.reached.ensures c.if-reached.true

pub returns : goal.returns
returns c = let a = c.args in chosen (λ (on : Bool). match_if on a.block.now) false c.reached.ensures c.if-reached.false
