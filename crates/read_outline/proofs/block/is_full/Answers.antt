use native.Mathlib.Omega.{arith}
use Rattle.format.proofs.Versions.{no_way}
use Rattle.read_outline.proofs.Laws.{full_none, full_flag, full_as}
use Rattle.read_outline.proofs.block.is_full.Goals as goal

pub bounds-file-at : goal.bounds-file-at
bounds-file-at c = omega (arith, c.is_block.ensures.1 c.if-is_block.true)

pub get_be-requires : goal.get_be-requires
get_be-requires c = (omega arith, omega (arith, c.is_block.ensures.1 c.if-is_block.true))

pub returns-then-file-at-eq0 : goal.returns-then-file-at-eq0
returns-then-file-at-eq0 c = (full_as _ _ _ _ _ c.is_block.ensures.0 c.if-is_block.true c.if-file-at-eq0.true _ c.get_be.ensures, λ q. c.is_block.ensures.1 c.if-is_block.true)

pub returns-else-file-at-eq0 : goal.returns-else-file-at-eq0
returns-else-file-at-eq0 c = (full_flag _ _ _ _ _ c.is_block.ensures.0 c.if-is_block.true c.if-file-at-eq0.false, λ q. no_way q)

pub returns-else-is_block : goal.returns-else-is_block
returns-else-is_block c = (full_none _ _ _ _ _ c.is_block.ensures.0 c.if-is_block.false, λ q. no_way q)
