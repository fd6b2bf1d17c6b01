use mathlib.Core.Path.{ap₂}
use Prim.Native.Nat.{◌+◌}
use native.Mathlib.Omega.{arith}
use Rattle.layout.proofs.Laws.{head_small}
use Rattle.layout.proofs.payloads.record_size.Goals as goal

pub overflow_add-result : goal.overflow_add-result
overflow_add-result c = omega (arith, head_small c.args.f)

pub returns : goal.returns
returns c = (ap₂ ◌+◌ c.head_size.ensures c.size.ensures.0, omega (arith, head_small c.args.f))
