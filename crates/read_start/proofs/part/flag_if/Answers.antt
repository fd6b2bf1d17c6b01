use mathlib.Core.Path.{◌≡◌, sym, ◌∙◌}
use mathlib.Core.Bool.{Bool, true, false}
use borrow.Author.Rules.{rules}
use Rattle.format.specs.Mark.{flag_of}
use Rattle.read_start.specs.Start.{byte_at, optional_if}
use Rattle.read_start.proofs.Parts.{chosen}
use Rattle.read_start.proofs.part.flag_if.Goals as goal

pub flag_at-requires : goal.flag_at-requires
flag_at-requires c = c.requires (sym c.reached.ensures ∙ c.if-reached.true)

pub returns-then-reached : goal.returns-then-reached
returns-then-reached c =
    let a = c.args in
    let read : record { given = 1; value = c.flag_at.result } ≡ optional_if true (flag_of (byte_at a.block.now a.at)) = λ i. record { given = 1; value = c.flag_at.ensures i } in
    read ∙ chosen (λ (on : Bool). optional_if on (flag_of (byte_at a.block.now a.at))) true c.reached.ensures c.if-reached.true

pub returns : goal.returns
returns c = let a = c.args in chosen (λ (on : Bool). optional_if on (flag_of (byte_at a.block.now a.at))) false c.reached.ensures c.if-reached.false
