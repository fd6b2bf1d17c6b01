use native.Mathlib.Omega.{arith}
use Rattle.newer_codes.proofs.Tests.{last_is, last_not}
use borrow.Author.Rules.{rules}
use Rattle.newer_codes.proofs.block.last_block.Goals as goal

pub get_be-used-requires : goal.get_be-used-requires
get_be-used-requires c = let b = c.is_last.ensures.1 c.if-is_last.true in (omega arith, omega (arith, b.0, b.1, c.requires.0.within))

pub returns-then-is_last : goal.returns-then-is_last
returns-then-is_last c = last_is _ _ _ _ _ _ c.is_last.ensures.0 c.if-is_last.true _ _ c.span_of.ensures.0 c.get_be-used.ensures

pub returns : goal.returns
returns c = last_not _ _ _ _ _ _ c.is_last.ensures.0 c.if-is_last.false
