use native.Mathlib.Omega.{arith}
use Rattle.room.proofs.Laws.{rows_none, rows_all}
use Rattle.room.proofs.rows_with_frames.Goals as goal

pub returns-then-p-eq0 : goal.returns-then-p-eq0
returns-then-p-eq0 c = (rows_none c.args.p _ c.if-p-eq0.true, omega arith)

pub returns : goal.returns
returns c = (rows_all c.args.p _ c.if-p-eq0.false, omega arith)
