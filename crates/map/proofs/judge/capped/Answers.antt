use native.Mathlib.Omega.{arith}
use Rattle.map.proofs.Judging.{cap_over, cap_under}
use Rattle.map.proofs.judge.capped.Goals as goal

pub returns-then-n-gt65535 : goal.returns-then-n-gt65535
returns-then-n-gt65535 c = (cap_over _ c.if-n-gt65535.true, omega arith)

pub returns : goal.returns
returns c = (cap_under _ c.if-n-gt65535.false, omega arith)
