use mathlib.Core.Path.{sym, ◌∙◌}
use Rattle.transpose.proofs.ports.mark_of.Goals as goal

pub mark_at-requires : goal.mark_at-requires
mark_at-requires c = λ e. rw c.unwrap_or.ensures (c.requires (sym c.is_some.ensures ∙ e))

pub returns : goal.returns
returns c = rw (← c.unwrap_or.ensures, ← c.is_some.ensures) c.mark_at.ensures
