use Prim.Native.Nat.{◌+◌}
use native.Mathlib.Omega.{arith}
use Rattle.room.proofs.Laws.{product_small, event_is, no_event}
use Rattle.room.proofs.event_len.Goals as goal

pub overflow_mul-result : goal.overflow_mul-result
overflow_mul-result c = omega (arith, product_small c.how_many.result (1 + c.payload_size.result) c.how_many.ensures.1 (omega arith))

pub returns-then-is_listed : goal.returns-then-is_listed
returns-then-is_listed c =
    let a = c.args in (
      event_is a.p a.e c.is_listed.ensures c.if-is_listed.true c.how_many.ensures.0 c.payload_size.ensures.0,
      product_small _ _ c.how_many.ensures.1 (omega arith),
    )

pub returns : goal.returns
returns c = (no_event c.args.p c.args.e c.is_listed.ensures c.if-is_listed.false, omega arith)
