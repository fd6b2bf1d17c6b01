use mathlib.Core.Path.{sym, ◌∙◌}
use Rattle.codes.specs.Blocks.{codes_wrong}
use Rattle.codes.proofs.blocks.codes_wrong.Goals as goal

pub returns-then-has_codes : goal.returns-then-has_codes
unfolding codes_wrong
returns-then-has_codes c = rw (c.if-given.true, sym c.has_codes.ensures ∙ c.if-has_codes.true, c.padded.ensures)

pub returns-then-given : goal.returns-then-given
unfolding codes_wrong
returns-then-given c = rw (c.if-given.true, sym c.has_codes.ensures ∙ c.if-has_codes.false)

pub returns : goal.returns
unfolding codes_wrong
returns c = rw c.if-given.false
