use Rattle.fault_scan.proofs.Laws.{fits_none, fits_low, fits_high}
use borrow.Author.Rules.{rules}
use Rattle.fault_scan.proofs.around.initiator_fits.Goals as goal

pub returns-then-initiator-le3 : goal.returns-then-initiator-le3
returns-then-initiator-le3 c = let h = c.has_initiator in let i = c.byte_at-initiator in fits_low _ _ _ h.result h.ensures c.if-has_initiator.true i.result i.ensures c.if-initiator-le3.true

pub returns-then-has_initiator : goal.returns-then-has_initiator
returns-then-has_initiator c = let h = c.has_initiator in let i = c.byte_at-initiator in fits_high _ _ _ h.result h.ensures c.if-has_initiator.true i.result i.ensures c.if-initiator-le3.false

pub returns : goal.returns
returns c = let h = c.has_initiator in fits_none _ _ _ h.result h.ensures c.if-has_initiator.false
