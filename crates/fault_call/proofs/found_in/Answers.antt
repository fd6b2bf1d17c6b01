use mathlib.Core.Path.{sym, ◌∙◌}
use borrow.Author.Rules.{rules}
use Rattle.fault_call.proofs.found_in.Goals as goal

pub started-requires : goal.started-requires
started-requires c = (c.requires, sym c.first_event-e.ensures ∙ c.in-Opens.is)

pub unopened-requires : goal.unopened-requires
unopened-requires c = (c.requires, sym c.first_event-e.ensures ∙ c.in-Other.is)
