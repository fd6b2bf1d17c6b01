use lib.ListN.{get_or}
use Rattle.format.specs.Event.{code_of}
use Rattle.format.specs.declared.event.Event.TheVariants.{GeckoCodes}
use Rattle.fault_scan.proofs.Laws.{listed_last, listed_full}
use borrow.Author.Rules.{rules}
use Rattle.fault_scan.proofs.around.is_listed.Goals as goal

pub returns-then-p-eq1 : goal.returns-then-p-eq1
returns-then-p-eq1 c = listed_last _ _ _ _ c.if-p-eq1.true c.get_be-used.result c.get_be-used.ensures _ c.listed_right.ensures

pub returns : goal.returns
returns c = let a = c.args in listed_full a.p.now a.v (get_or a.spans.now (code_of GeckoCodes) 0) a.n c.if-p-eq1.false
