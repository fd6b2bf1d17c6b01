use Prim.Native.Nat.{◌+◌}
use native.Mathlib.Omega.{arith}
use borrow.Author.Rules.{rules}
use Rattle.ser.proofs.Sums.{small, records_are, no_records}
use Rattle.ser.proofs.length.records_len.Goals as goal

pub overflow_mul-result : goal.overflow_mul-result
overflow_mul-result c = omega (arith, small c.args.n (1 + c.record_size.result) c.requires (omega arith))

pub returns-then-exists : goal.returns-then-exists
returns-then-exists c =
    (records_are _ _ _ _ _ c.exists.ensures c.if-exists.true c.record_size.ensures.0, small _ _ c.requires (omega arith))

pub returns : goal.returns
returns c = (no_records _ _ _ _ c.exists.ensures c.if-exists.false, omega arith)
