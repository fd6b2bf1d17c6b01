use borrow.Author.Rules.{rules}
use Rattle.slp.proofs.Live.{head_call}
use Rattle.slp.proofs.live_calls.slp_write_head.Goals as goal

pub returns : goal.returns
returns c = head_call c.write_head.ensures c.by_number.ensures c.appended_numbers.ensures
