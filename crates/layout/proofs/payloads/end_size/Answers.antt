use mathlib.Core.Path.{sym, ◌∙◌}
use native.Mathlib.Omega.{arith}
use Rattle.layout.specs.Payloads.{end_size}
use Rattle.layout.proofs.payloads.end_size.Goals as goal

pub returns-then-has_placements : goal.returns-then-has_placements
unfolding end_size
returns-then-has_placements c = (rw (sym c.has_placements.ensures ∙ c.if-has_placements.true), omega arith)

pub returns-then-has_initiator : goal.returns-then-has_initiator
unfolding end_size
returns-then-has_initiator c =
    (rw (sym c.has_placements.ensures ∙ c.if-has_placements.false, sym c.has_initiator.ensures ∙ c.if-has_initiator.true), omega arith)

pub returns : goal.returns
unfolding end_size
returns c =
    (rw (sym c.has_placements.ensures ∙ c.if-has_placements.false, sym c.has_initiator.ensures ∙ c.if-has_initiator.false), omega arith)
