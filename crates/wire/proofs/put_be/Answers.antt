use Rattle.wire.proofs.Laws.{be_is, be_last}
use Rattle.wire.proofs.put_be.Goals as goal
use Rattle.wire.proofs.put_be.Goals.{Start}

pub put_bytes-requires : goal.put_bytes-requires
put_bytes-requires c = rw (c.to_be_bytes.ensures, be_is c.args.v, be_last c.args.width c.args.v c.requires.0) c.requires.1

pub returns : goal.returns
returns c = rw (c.to_be_bytes.ensures, be_is c.args.v, be_last c.args.width c.args.v c.requires.0) at c.put_bytes.ensures
