use mathlib.Core.Path.{refl}
use Rattle.fault_call.specs.Outcome.{faulted, other, events}
use Rattle.fault_call.proofs.Laws.{head_accepted}
use borrow.Author.Rules.{rules}
use Rattle.fault_call.proofs.fault.Goals as goal

pub returns-then-m-ne-BAD_EVENTS : goal.returns-then-m-ne-BAD_EVENTS
returns-then-m-ne-BAD_EVENTS c = other c.measure-m.result c.measure-m.ensures c.if-m-ne-BAD_EVENTS.true refl

pub returns : goal.returns
returns c = let m = c.measure-m in events m.result m.ensures c.if-m-ne-BAD_EVENTS.false (λ i. faulted 19 (c.found-x.ensures (head_accepted c.args.file.now m.result m.ensures c.if-m-ne-BAD_EVENTS.false) i))
