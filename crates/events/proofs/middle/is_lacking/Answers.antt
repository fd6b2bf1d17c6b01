use mathlib.Core.Path.{sym, ◌∙◌}
use native.Mathlib.Omega.{arith}
use Rattle.places.proofs.Laws.{never}
use Rattle.events.proofs.middle.is_lacking.Goals as goal

pub bounds-offsets-i-then-m : goal.bounds-offsets-i-then-m
bounds-offsets-i-then-m c = omega (arith, (c.requires.0 c.if-m.true).entries, c.requires.1)

pub returns : goal.returns
returns c = λ e g. never (sym c.if-m.false ∙ g)

pub offset_bounds-offsets-i : goal.offset_bounds-offsets-i
offset_bounds-offsets-i c = omega (arith, (c.requires.0 c.if-m.true).entries, c.requires.1)

pub bounds-offsets-i : goal.bounds-offsets-i
bounds-offsets-i c = omega (arith, (c.requires.0 c.if-m.true).entries, c.requires.1)

pub offset_bounds-offsets-i-then-m : goal.offset_bounds-offsets-i-then-m
offset_bounds-offsets-i-then-m c = omega (arith, (c.requires.0 c.if-m.true).entries, c.requires.1)
