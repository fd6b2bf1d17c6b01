use native.Mathlib.Omega.{arith}
use Rattle.format.proofs.Versions.{no_way}
use Rattle.newer_codes.proofs.Tests.{last_none, last_flag_lem, last_empty, last_as, last_few}
use borrow.Author.Rules.{rules}
use Rattle.newer_codes.proofs.block.is_last.Goals as goal

pub bounds-file-at : goal.bounds-file-at
bounds-file-at c = let b = c.is_block.ensures.1 c.if-is_block.true in omega (arith, b.0, b.1, c.requires.within)

pub get_be-used-requires : goal.get_be-used-requires
get_be-used-requires c = let b = c.is_block.ensures.1 c.if-is_block.true in (omega arith, omega (arith, b.0, b.1, c.requires.within))

pub returns-then-used-gt0 : goal.returns-then-used-gt0
returns-then-used-gt0 c =
    let b = c.is_block.ensures in
    let t = c.if-is_block.true in
    let f = c.if-file-at-eq1.true in
    let u = c.get_be-used.ensures in
    (last_as _ _ _ _ _ b.0 t f _ u c.if-used-gt0.true, λ q. ((b.1 t).0, (b.1 t).1, last_few _ _ _ _ _ b.0 t f _ u q))

pub returns-else-used-gt0 : goal.returns-else-used-gt0
returns-else-used-gt0 c = (last_empty _ _ _ _ _ c.is_block.ensures.0 c.if-is_block.true c.if-file-at-eq1.true _ c.get_be-used.ensures c.if-used-gt0.false, λ q. no_way q)

pub returns-else-file-at-eq1 : goal.returns-else-file-at-eq1
returns-else-file-at-eq1 c = (last_flag_lem _ _ _ _ _ c.is_block.ensures.0 c.if-is_block.true c.if-file-at-eq1.false, λ q. no_way q)

pub returns-else-is_block : goal.returns-else-is_block
returns-else-is_block c = (last_none _ _ _ _ _ c.is_block.ensures.0 c.if-is_block.false, λ q. no_way q)
