use Rattle.measure.proofs.lengths.port_column.Goals as goal

pub returns-then-follows : goal.returns-then-follows
returns-then-follows c = rw c.if-follows.true

pub returns : goal.returns
returns c = rw c.if-follows.false
