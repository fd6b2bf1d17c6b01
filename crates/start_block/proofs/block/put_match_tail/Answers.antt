-- `start::block::put_match_tail` meets its contract, arm by arm.
use Rattle.start.proofs.Tails.{tail_zeros, tail_stays}
use Rattle.start_block.proofs.block.put_match_tail.Goals as goal

pub returns-in-Cleared : goal.returns-in-Cleared
returns-in-Cleared c =
    tail_zeros c.args.tail c.args.len c.in-Cleared.is c.put_zeros.ensures

pub returns-in-Kept : goal.returns-in-Kept
returns-in-Kept c =
    tail_stays _ c.args.tail c.args.len c.in-Kept.is
