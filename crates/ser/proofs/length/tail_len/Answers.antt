use native.Mathlib.Omega.{arith}
use borrow.Author.Rules.{rules}
use Rattle.ser.proofs.length.tail_len.Goals as goal

pub returns-then-given : goal.returns-then-given
returns-then-given c = (rw c.if-given.true, omega arith)
