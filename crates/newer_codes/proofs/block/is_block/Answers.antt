use native.Mathlib.Omega.{arith}
use Rattle.format.proofs.Versions.{no_way}
use Rattle.newer_codes.proofs.Tests.{block_none, block_other, block_short, block_as, block_inside}
use borrow.Author.Rules.{rules}
use Rattle.newer_codes.proofs.block.is_block.Goals as goal

pub bounds-file-at-then-span_of-ge517 : goal.bounds-file-at-then-span_of-ge517
bounds-file-at-then-span_of-ge517 c =
    let inside = block_inside _ _ _ _ c.requires c.if-at-stop.true c.if-file-at-eq-MESSAGE_SPLITTER.true in
    omega (arith, inside, c.requires.within, c.span_of.ensures.0, c.if-span_of-ge517.true)

pub returns-then-span_of-ge517 : goal.returns-then-span_of-ge517
returns-then-span_of-ge517 c =
    let l = c.if-at-stop.true in
    let n = c.span_of.ensures.0 in
    let many = c.if-span_of-ge517.true in (
      block_as _ _ _ _ l c.if-file-at-eq-MESSAGE_SPLITTER.true _ n many,
      λ q. (omega (arith, n, many), block_inside _ _ _ _ c.requires l c.if-file-at-eq-MESSAGE_SPLITTER.true),
    )

pub returns-else-span_of-ge517 : goal.returns-else-span_of-ge517
returns-else-span_of-ge517 c = (block_short _ _ _ _ c.if-at-stop.true c.if-file-at-eq-MESSAGE_SPLITTER.true _ c.span_of.ensures.0 c.if-span_of-ge517.false, λ q. no_way q)

pub returns-else-file-at-eq-MESSAGE_SPLITTER : goal.returns-else-file-at-eq-MESSAGE_SPLITTER
returns-else-file-at-eq-MESSAGE_SPLITTER c = (block_other _ _ _ _ c.if-at-stop.true c.if-file-at-eq-MESSAGE_SPLITTER.false, λ q. no_way q)

pub returns-else-at-stop : goal.returns-else-at-stop
returns-else-at-stop c = (block_none _ _ _ _ c.if-at-stop.false, λ q. no_way q)
