use mathlib.Core.Path.{sym, ◌∙◌}
use Rattle.fault_call.proofs.Laws.{fault_none, fault_wrong}
use borrow.Author.Rules.{rules}
use Rattle.fault_call.proofs.unopened.Goals as goal

pub returns-then-is_whole : goal.returns-then-is_whole
returns-then-is_whole c = let a = c.args in fault_wrong a.file.now a.spans.now a.first a.stop a.whole c.requires.0 (sym c.is_whole.ensures ∙ c.if-is_whole.true) c.requires.1

pub returns : goal.returns
returns c = let a = c.args in fault_none a.file.now a.spans.now a.first a.stop a.whole c.requires.0 (sym c.is_whole.ensures ∙ c.if-is_whole.false)
