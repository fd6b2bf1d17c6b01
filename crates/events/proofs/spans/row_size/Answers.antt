use native.Mathlib.Omega.{arith}
use Rattle.events.proofs.PlaceLaws.{size_given, size_none}
use Rattle.events.proofs.spans.row_size.Goals as goal

pub returns-then-m : goal.returns-then-m
returns-then-m c = (size_given c.args.m c.if-m.true, omega (arith, c.requires))

pub returns : goal.returns
returns c = (size_none c.args.m c.if-m.false, omega arith)
