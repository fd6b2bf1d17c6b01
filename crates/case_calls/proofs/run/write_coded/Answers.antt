use borrow.Author.Rules.{rules}
use Rattle.case_calls.proofs.run.write_coded.Goals as goal

pub returns : goal.returns
returns c = c.write_frame.ensures
