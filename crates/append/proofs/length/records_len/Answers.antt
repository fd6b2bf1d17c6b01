use Prim.Native.Nat.{◌+◌}
use native.Mathlib.Omega.{arith}
use Rattle.append.proofs.Lengths.{small, records_given, records_none}
use Rattle.append.proofs.length.records_len.Goals as goal

pub overflow_mul-result : goal.overflow_mul-result
overflow_mul-result c = omega (arith, small c.args.n (5 + c.args.m.bytes) c.requires.1 (omega (arith, c.requires.0)))

pub returns-then-m : goal.returns-then-m
returns-then-m c = (records_given c.args.m c.args.n c.if-m.true, small c.args.n (5 + c.args.m.bytes) c.requires.1 (omega (arith, c.requires.0)))

pub returns : goal.returns
returns c = (records_none c.args.m c.args.n c.if-m.false, omega arith)
