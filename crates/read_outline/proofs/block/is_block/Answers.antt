use native.Mathlib.Omega.{arith}
use Rattle.format.proofs.Versions.{no_way}
use Rattle.read_outline.proofs.Laws.{block_short, block_other, block_unlisted, block_as}
use Rattle.read_outline.proofs.block.is_block.Goals as goal

pub returns-then-stop-at-lt517 : goal.returns-then-stop-at-lt517
returns-then-stop-at-lt517 c = (block_short _ _ _ _ (omega arith), λ q. no_way q)

pub returns-then-file-at-ne-MESSAGE_SPLITTER : goal.returns-then-file-at-ne-MESSAGE_SPLITTER
returns-then-file-at-ne-MESSAGE_SPLITTER c = (block_other _ _ _ _ (omega arith) c.if-file-at-ne-MESSAGE_SPLITTER.true, λ q. no_way q)

pub returns-then-spans-ne517 : goal.returns-then-spans-ne517
returns-then-spans-ne517 c = (block_unlisted _ _ _ _ (omega arith) c.if-file-at-ne-MESSAGE_SPLITTER.false c.if-spans-ne517.true, λ q. no_way q)

pub returns : goal.returns
returns c = (block_as _ _ _ _ (omega arith) c.if-file-at-ne-MESSAGE_SPLITTER.false c.if-spans-ne517.false, λ q. omega arith)
