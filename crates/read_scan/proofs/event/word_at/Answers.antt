use Rattle.read_scan.proofs.event.word_at.Goals as goal

pub returns : goal.returns
returns c = let w = c.who_at-w.ensures in λ i. record { id = c.get_be.ensures i; port = (w i).port; follower = (w i).follower }
