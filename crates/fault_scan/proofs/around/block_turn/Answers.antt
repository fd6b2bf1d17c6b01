use mathlib.Core.Path.{ap, ◌∙◌}
use native.Mathlib.Omega.{arith}
use Rattle.format.specs.Event.{code_of}
use Rattle.format.specs.declared.event.Event.TheVariants.{MessageSplitter}
use Rattle.fault_reason.specs.Reason.{block_reason}
use Rattle.fault_reason.specs.Inner.{ev}
use Rattle.fault_scan.proofs.Laws.{block_last, block_full, block_none}
use borrow.Author.Rules.{rules}
use Rattle.fault_scan.proofs.around.block_turn.Goals as goal

pub bounds-p-515 : goal.bounds-p-515
bounds-p-515 c = omega (arith, c.takes_block.ensures.1 c.if-takes_block.true)

pub returns-then-p-eq1 : goal.returns-then-p-eq1
returns-then-p-eq1 c = let t = c.takes_block in block_last _ _ _ _ t.result t.ensures.0 c.if-takes_block.true c.if-p-eq1.true

pub returns-then-takes_block : goal.returns-then-takes_block
returns-then-takes_block c = let t = c.takes_block in (block_full _ _ _ _ t.result t.ensures.0 c.if-takes_block.true c.if-p-eq1.false, t.ensures.1 c.if-takes_block.true)

pub returns : goal.returns
returns c =
    let t = c.takes_block in
    let a = c.args in
    (block_none _ _ _ _ t.result t.ensures.0 c.if-takes_block.false, c.block_reason-reason.ensures ∙ ap (λ k. block_reason a.v k (ev (code_of MessageSplitter) a.p.now)) c.span_of.ensures.0)
