use native.Mathlib.Omega.{arith}
use borrow.Author.Tests.{leb-true, eqb-true}
use Rattle.format.proofs.Versions.{no_way}
use Rattle.fault_reason.proofs.Laws.{good_not, last_early, last_empty, last_is, full_is, full_not}
use borrow.Author.Rules.{rules}
use Rattle.fault_reason.proofs.around.is_good.Goals as goal

pub get_be-used-requires : goal.get_be-used-requires
get_be-used-requires c = (omega arith, omega (arith, c.is_block.ensures.1 c.if-is_block.true))

pub bounds-p-515 : goal.bounds-p-515
bounds-p-515 c = omega (arith, c.is_block.ensures.1 c.if-is_block.true)

pub returns-then-used-gt0 : goal.returns-then-used-gt0
returns-then-used-gt0 c = (
  last_is _ _ c.is_block.result c.is_block.ensures.0 c.if-is_block.true c.get_be-used.result c.get_be-used.ensures c.if-p-eq1.true c.has_codes.result c.has_codes.ensures c.if-has_codes.true c.if-used-gt0.true,
  λ q. (c.is_block.ensures.1 c.if-is_block.true, omega (arith, leb-true c.get_be-used.result 512 q, c.get_be-used.ensures)),
)

pub returns-else-used-gt0 : goal.returns-else-used-gt0
returns-else-used-gt0 c =
    (last_empty _ _ c.is_block.result c.is_block.ensures.0 c.if-is_block.true c.get_be-used.result c.get_be-used.ensures c.if-p-eq1.true c.has_codes.result c.has_codes.ensures c.if-has_codes.true c.if-used-gt0.false, λ q. no_way q)

pub returns-else-has_codes : goal.returns-else-has_codes
returns-else-has_codes c =
    (last_early _ _ c.is_block.result c.is_block.ensures.0 c.if-is_block.true c.get_be-used.result c.get_be-used.ensures c.if-p-eq1.true c.has_codes.result c.has_codes.ensures c.if-has_codes.false, λ q. no_way q)

pub bounds-p-515-then-is_block : goal.bounds-p-515-then-is_block
bounds-p-515-then-is_block c = omega (arith, c.is_block.ensures.1 c.if-is_block.true)

pub returns-then-p-eq0 : goal.returns-then-p-eq0
returns-then-p-eq0 c =
    (full_is _ _ c.is_block.result c.is_block.ensures.0 c.if-is_block.true c.get_be-used.result c.get_be-used.ensures c.if-p-eq1.false c.if-p-eq0.true, λ q. (c.is_block.ensures.1 c.if-is_block.true, omega (arith, eqb-true c.get_be-used.result 512 q, c.get_be-used.ensures)))

pub returns-else-p-eq0 : goal.returns-else-p-eq0
returns-else-p-eq0 c =
    (full_not _ _ c.is_block.result c.is_block.ensures.0 c.if-is_block.true c.get_be-used.result c.get_be-used.ensures c.if-p-eq1.false c.if-p-eq0.false, λ q. no_way q)

pub returns-else-is_block : goal.returns-else-is_block
returns-else-is_block c = (good_not _ _ c.is_block.result c.is_block.ensures.0 c.if-is_block.false, λ q. no_way q)
