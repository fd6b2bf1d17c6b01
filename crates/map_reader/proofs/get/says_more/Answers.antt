use native.Mathlib.Omega.{arith}
use Rattle.map_reader.proofs.Steps.{more_two, more_four, more_eight, more_none}
use Rattle.map_reader.proofs.get.says_more.Goals as goal

pub is_long-requires : goal.is_long-requires
is_long-requires c = (c.byte_at-mark.ensures.1 (omega (arith, c.if-mark-eq73.true)), omega arith, omega arith)

pub returns-then-mark-eq73 : goal.returns-then-mark-eq73
returns-then-mark-eq73 c = more_two _ _ c.byte_at-mark.ensures.0 c.if-mark-eq73.true c.is_long.ensures

pub is_long-requires-then-mark-eq108 : goal.is_long-requires-then-mark-eq108
is_long-requires-then-mark-eq108 c = (c.byte_at-mark.ensures.1 (omega (arith, c.if-mark-eq108.true)), omega arith, omega arith)

pub returns-then-mark-eq108 : goal.returns-then-mark-eq108
returns-then-mark-eq108 c = more_four _ _ c.byte_at-mark.ensures.0 c.if-mark-eq73.false c.if-mark-eq108.true c.is_long-then-mark-eq108.ensures

pub is_longer-requires : goal.is_longer-requires
is_longer-requires c = c.byte_at-mark.ensures.1 (omega (arith, c.if-mark-eq76.true))

pub returns-then-mark-eq76 : goal.returns-then-mark-eq76
returns-then-mark-eq76 c = more_eight _ _ c.byte_at-mark.ensures.0 c.if-mark-eq73.false c.if-mark-eq108.false c.if-mark-eq76.true c.is_longer.ensures

pub returns : goal.returns
returns c = more_none _ _ c.byte_at-mark.ensures.0 c.if-mark-eq73.false c.if-mark-eq108.false c.if-mark-eq76.false
