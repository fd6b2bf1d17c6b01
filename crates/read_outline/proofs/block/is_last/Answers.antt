use native.Mathlib.Omega.{arith}
use Rattle.format.proofs.Versions.{no_way}
use Rattle.read_outline.proofs.Laws.{last_none, last_flag_lem, last_early, last_empty, last_as, last_few}
use Rattle.read_outline.proofs.block.is_last.Goals as goal

pub bounds-file-at : goal.bounds-file-at
bounds-file-at c = omega (arith, c.is_block.ensures.1 c.if-is_block.true)

pub get_be-used-requires : goal.get_be-used-requires
get_be-used-requires c = (omega arith, omega (arith, c.is_block.ensures.1 c.if-is_block.true))

pub returns-then-used-gt0 : goal.returns-then-used-gt0
returns-then-used-gt0 c = (
  last_as _ _ _ _ _ c.is_block.ensures.0 _ c.if-is_block.true c.if-file-at-eq1.true _ c.has_codes.ensures c.if-has_codes.true _ c.get_be-used.ensures
      c.if-used-gt0.true,
  λ q. (c.is_block.ensures.1 c.if-is_block.true, last_few _ _ _ _ _ c.is_block.ensures.0 _ c.if-is_block.true c.if-file-at-eq1.true _ c.has_codes.ensures c.if-has_codes.true _ c.get_be-used.ensures q),
)

pub returns-else-used-gt0 : goal.returns-else-used-gt0
returns-else-used-gt0 c =
    (last_empty _ _ _ _ _ c.is_block.ensures.0 _ c.if-is_block.true c.if-file-at-eq1.true _ c.has_codes.ensures c.if-has_codes.true _ c.get_be-used.ensures c.if-used-gt0.false, λ q. no_way q)

pub returns-else-has_codes : goal.returns-else-has_codes
returns-else-has_codes c = (last_early _ _ _ _ _ c.is_block.ensures.0 _ c.if-is_block.true c.if-file-at-eq1.true _ c.has_codes.ensures c.if-has_codes.false, λ q. no_way q)

pub returns-else-file-at-eq1 : goal.returns-else-file-at-eq1
returns-else-file-at-eq1 c = (last_flag_lem _ _ _ _ _ c.is_block.ensures.0 _ c.if-is_block.true c.if-file-at-eq1.false, λ q. no_way q)

pub returns-else-is_block : goal.returns-else-is_block
returns-else-is_block c = (last_none _ _ _ _ _ c.is_block.ensures.0 _ c.if-is_block.false, λ q. no_way q)
