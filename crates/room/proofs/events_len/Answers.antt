-- `room::events_len` meets its contract: the parts, added up.
use native.Mathlib.Omega.{arith}
use Rattle.room.proofs.Laws.{events_are}
use Rattle.room.proofs.events_len.Goals as goal

pub returns : goal.returns
returns c = (
  events_are c.args.p c.event_len-start.ensures.0 c.event_len-codes.ensures.0 c.frames_len-frames.ensures.0 c.event_len-ends.ensures.0,
  omega arith,
)
