use Rattle.wire.proofs.Writers.{wrote_byte}
use Rattle.wire.proofs.put_u8.Goals as goal

pub returns : goal.returns
returns c = wrote_byte _ _ _
