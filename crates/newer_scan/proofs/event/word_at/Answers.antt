use borrow.Author.Rules.{rules}
use Rattle.newer_scan.proofs.event.word_at.Goals as goal

pub returns : goal.returns
returns c = λ i. record { id = c.get_be-id.ensures i; port = c.byte_at-port.ensures i; follower = c.byte_at-follower.ensures i }
