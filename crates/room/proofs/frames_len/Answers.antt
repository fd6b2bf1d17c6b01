-- `room::frames_len` meets its contract: the families' parts, added up.
use native.Mathlib.Omega.{arith}
use Rattle.room.proofs.frames_len.Goals as goal

pub returns : goal.returns
returns c = (omega arith, omega arith)
