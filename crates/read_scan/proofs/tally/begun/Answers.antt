use native.Mathlib.Omega.{arith}
use Rattle.read_scan.proofs.tally.begun.Goals as goal

pub overflow_add-result : goal.overflow_add-result
overflow_add-result c = omega (arith, c.requires.frames)
