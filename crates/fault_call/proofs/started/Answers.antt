use mathlib.Core.Path.{sym, ◌∙◌}
use Rattle.fault_call.proofs.Laws.{fault_newer}
use borrow.Author.Rules.{rules}
use Rattle.fault_call.proofs.started.Goals as goal

pub opened-requires : goal.opened-requires
opened-requires c = (c.requires.0, c.requires.1, sym c.accepted.ensures ∙ c.if-accepted.true)

pub returns : goal.returns
returns c =
    let a = c.args in
    fault_newer a.file.now a.spans.now a.first a.stop a.whole c.requires.0 a.v a.len c.requires.1 (sym c.accepted.ensures ∙ c.if-accepted.false)
