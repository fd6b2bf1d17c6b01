use Rattle.read_scan.proofs.tally.counted.Goals as goal

pub with_pre-requires : goal.with_pre-requires
with_pre-requires c = (c.requires.0, c.requires.1 c.in-Pre.is)
