use mathlib.Core.Path.{ap}
use Prim.Native.Nat.{ℕ, ◌*◌}
use native.Mathlib.Omega.{arith}
use borrow.Author.Rules.{rules}
use Rattle.ser.proofs.Sums.{blocks_are}
use Rattle.ser.proofs.length.codes_len.Goals as goal

pub returns-then-given : goal.returns-then-given
returns-then-given c =
    let (e, few) = blocks_are c.args.actual c.padded.result c.padded.ensures (omega arith) in
    (rw c.if-given.true (ap (λ (n : ℕ). n * 517) e), omega arith)

pub overflow_mul-result : goal.overflow_mul-result
overflow_mul-result c =
    let (e, few) = blocks_are c.args.actual c.padded.result c.padded.ensures (omega arith) in
    omega arith
