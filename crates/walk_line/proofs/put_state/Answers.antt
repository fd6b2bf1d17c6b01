use native.Mathlib.Omega.{arith}
use Rattle.walk_line.proofs.put_state.Goals as goal

pub returns-then-whole : goal.returns-then-whole
returns-then-whole c = let w = c.put_bytes.ensures in (rw c.if-whole.true w, omega (arith, w.next_is))

pub returns-else-whole : goal.returns-else-whole
returns-else-whole c = let w = c.put_bytes-else-whole.ensures in (rw c.if-whole.false w, omega (arith, w.next_is))
