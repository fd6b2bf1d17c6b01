use mathlib.Core.Path.{sym, ◌∙◌}
use borrow.Author.Tests.{lt-ltb, le-ltb}
use Rattle.format.proofs.Tests.{one_here, one_skip, one_last}
use Rattle.frames.specs.Judge.{ports_wrong}
use Rattle.frames.proofs.ports.ports_wrong.Goals as goal

pub returns-then-f-gt4 : goal.returns-then-f-gt4
unfolding ports_wrong
returns-then-f-gt4 c = one_here _ _ (lt-ltb _ _ c.if-f-gt4.true)

pub returns-then-port_above : goal.returns-then-port_above
unfolding ports_wrong
returns-then-port_above c = one_skip _ _ _ (le-ltb _ _ c.if-f-gt4.false) (one_here _ _ (sym c.port_above.ensures ∙ c.if-port_above.true))

pub returns : goal.returns
unfolding ports_wrong
returns c =
    one_skip _ _ _ (le-ltb _ _ c.if-f-gt4.false)
    (one_skip _ _ _ (sym c.port_above.ensures ∙ c.if-port_above.false) (one_last _ _ c.port_twice.ensures))
