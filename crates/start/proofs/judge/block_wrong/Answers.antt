use Rattle.start.proofs.Refusals.{block_short, block_else}
use Rattle.start.proofs.judge.block_wrong.Goals as goal

pub returns-then-len-block_length : goal.returns-then-len-block_length
returns-then-len-block_length c = search block_short

pub returns : goal.returns
returns c = search block_else
