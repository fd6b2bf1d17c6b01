use native.Mathlib.Omega.{arith}
use Rattle.read_outline.proofs.Laws.{last_is, last_not}
use Rattle.read_outline.proofs.block.last_block.Goals as goal

pub get_be-used-requires : goal.get_be-used-requires
get_be-used-requires c = (omega arith, omega (arith, (c.is_last.ensures.1 c.if-is_last.true).0, c.requires.0.long))

pub returns-then-is_last : goal.returns-then-is_last
returns-then-is_last c = last_is _ _ _ _ _ _ _ c.is_last.ensures.0 c.if-is_last.true _ c.get_be-used.ensures

pub returns : goal.returns
returns c = last_not _ _ _ _ _ _ _ c.is_last.ensures.0 c.if-is_last.false
