use lib.ListN.{get_or}
use Rattle.format.specs.Event.{code_of}
use Rattle.format.specs.declared.event.Event.TheVariants.{GeckoCodes}
use Rattle.fault_scan.proofs.Turns.{coded_full, coded_last, coded_wrong}
use borrow.Author.Rules.{rules}
use Rattle.fault_scan.proofs.turn.coded_turn.Goals as goal

pub returns-in-Full : goal.returns-in-Full
returns-in-Full c =
    let a = c.args in
    coded_full a.v a.file.now a.spans.now a.span a.stop a.at a.next c.requires.0 (get_or a.spans.now (code_of GeckoCodes) 0) a.n c.requires.2 c.block_turn-b.result c.block_turn-b.ensures c.requires.1 c.in-Full.is

pub returns-in-Last : goal.returns-in-Last
returns-in-Last c =
    let a = c.args in
    coded_last a.v a.file.now a.spans.now a.span a.stop a.at a.next c.requires.0 (get_or a.spans.now (code_of GeckoCodes) 0) a.n c.requires.2 c.block_turn-b.result c.block_turn-b.ensures c.in-Last.is
    c.outset-stage.result c.outset-stage.ensures c.nothing-tally.result c.nothing-tally.ensures

pub returns-in-Wrong : goal.returns-in-Wrong
returns-in-Wrong c =
    let a = c.args in
    coded_wrong a.v a.file.now a.spans.now a.span a.stop a.at a.next c.requires.0 (get_or a.spans.now (code_of GeckoCodes) 0) a.n c.requires.2 c.block_turn-b.result c.block_turn-b.ensures c.in-Wrong.reason c.in-Wrong.is
