use Prim.Native.Nat.{ℕ}
use mathlib.Core.Path.{sym, ap, ◌∙◌}
use native.Mathlib.Omega.{arith}
use lib.ListN.{get_or}
use Rattle.head.proofs.span_at.Goals as goal

pub returns-then-codes-i : goal.returns-then-codes-i
returns-then-codes-i c =
    c.span.ensures ∙ sym (c.requires.2 c.loop-i.i (omega arith)) ∙ ap (λ (x : ℕ). get_or c.args.spans.now x 0) c.if-codes-i.true

pub overflow_cast-result-3 : goal.overflow_cast-result-3
overflow_cast-result-3 c = omega (arith, c.shared_slice_known-4-1.given c.args.code)
