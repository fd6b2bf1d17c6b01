use mathlib.Core.Path.{ap, ◌∙◌}
use Prim.Native.Nat.{ℕ, ◌+◌, ◌*◌}
use native.Mathlib.Omega.{arith}
use borrow.Author.Rules.{rules}
use Rattle.layout.specs.Payloads.{end_size}
use Rattle.ser.proofs.Sums.{no_end, one_end, two_ends}
use Rattle.ser.proofs.length.ends_len.Goals as goal

pub returns-then-e-eq0 : goal.returns-then-e-eq0
returns-then-e-eq0 c = (no_end c.args.e c.args.double (1 + end_size c.args.v) c.if-e-eq0.true, omega arith)

pub returns-then-double-eq0 : goal.returns-then-double-eq0
returns-then-double-eq0 c = (ap (λ (n : ℕ). 1 + n) c.end_size.ensures.0 ∙ one_end c.args.e c.args.double _ c.if-e-eq0.false c.if-double-eq0.true, omega arith)

pub returns : goal.returns
returns c = (ap (λ (n : ℕ). 2 * (1 + n)) c.end_size-2.ensures.0 ∙ two_ends c.args.e c.args.double _ c.if-e-eq0.false c.if-double-eq0.false, omega arith)
