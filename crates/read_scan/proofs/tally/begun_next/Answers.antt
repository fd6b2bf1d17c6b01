use native.Mathlib.Omega.{arith}
use Rattle.read_scan.proofs.Leaps.{next_begun}
use Rattle.read_scan.proofs.tally.begun_next.Goals as goal

pub overflow_add-result : goal.overflow_add-result
overflow_add-result c = omega (arith, c.requires.0.frames)

pub returns : goal.returns
returns c = let a = c.args in next_begun a.t a.old a.id c.requires.1
