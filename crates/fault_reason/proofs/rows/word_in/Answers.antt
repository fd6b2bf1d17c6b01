use Rattle.fault_reason.proofs.Laws.{id_as}
use borrow.Author.Rules.{rules}
use Rattle.fault_reason.proofs.rows.word_in.Goals as goal

pub returns : goal.returns
returns c = λ i. record { id = id_as _ _ c.get_be-id.ensures i; port = c.byte_at.ensures i; follower = c.byte_at-2.ensures i }
