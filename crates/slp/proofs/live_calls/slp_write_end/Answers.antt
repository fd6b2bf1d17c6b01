use borrow.Author.Rules.{rules}
use Rattle.slp.proofs.Live.{end_call}
use Rattle.slp.proofs.live_calls.slp_write_end.Goals as goal

pub returns : goal.returns
returns c = end_call c.write_end.ensures c.by_number.ensures c.closed_numbers.ensures
