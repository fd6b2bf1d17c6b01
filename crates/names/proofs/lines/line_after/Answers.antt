use native.Mathlib.Omega.{arith}
use Rattle.names.proofs.Texts.{behind_line, behind_all}
use Rattle.names.proofs.lines.line_after.Goals as goal

pub returns-then-end-s : goal.returns-then-end-s
returns-then-end-s c = (behind_line _ _ _ c.line_end-end.ensures.0, omega (arith, c.if-end-s.true))

pub returns : goal.returns
returns c = (behind_all _ _ _ c.line_end-end.ensures.0 c.if-end-s.false, c.line_end-end.ensures.1)
