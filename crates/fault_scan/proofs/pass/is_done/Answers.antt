use lib.ListN.{get_or}
use Rattle.format.specs.Event.{code_of}
use Rattle.format.specs.declared.event.Event.TheVariants.{GeckoCodes}
use borrow.Author.Tests.{eq-eqb, ne_eqb}
use Rattle.fault_scan.specs.declared.standing.Standing.TheVariants.{Coding, Framing}
use Rattle.fault_scan.proofs.Laws.{and_so, and_not}
use Rattle.fault_scan.proofs.Passing.{done_as}
use borrow.Author.Rules.{rules}
use Rattle.fault_scan.proofs.pass.is_done.Goals as goal

pub returns-then-blocks-eq0 : goal.returns-then-blocks-eq0
returns-then-blocks-eq0 c =
    let a = c.args in
    done_as a.v (get_or a.spans.now (code_of GeckoCodes) 0) a.x (Coding c.in-Coding.blocks) c.in-Coding.is c.listed_right.result (and_so _ _ _ (eq-eqb _ _ c.if-blocks-eq0.true) c.listed_right.ensures)

pub returns-else-blocks-eq0 : goal.returns-else-blocks-eq0
returns-else-blocks-eq0 c = let a = c.args in done_as a.v (get_or a.spans.now (code_of GeckoCodes) 0) a.x (Coding c.in-Coding.blocks) c.in-Coding.is _ (and_not _ _ (ne_eqb _ _ c.if-blocks-eq0.false))

pub returns-in-Framing : goal.returns-in-Framing
returns-in-Framing c = let a = c.args in done_as a.v (get_or a.spans.now (code_of GeckoCodes) 0) a.x (Framing c.in-Framing.stage c.in-Framing.tally) c.in-Framing.is c.is_closed.result c.is_closed.ensures
