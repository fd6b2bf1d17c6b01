use mathlib.Core.Path.{◌∙◌}
use Prim.Native.Nat.{◌+◌, ◌-◌, ◌^◌, ◌<◌}
use native.Mathlib.Omega.{arith}
use lib.ListN.{take, drop, get_or}
use Rattle.wire.proofs.Laws.{part_below, part_here, get_in, get_step, get_done, get_small, get_more}
use Rattle.wire.proofs.get_be.Goals as goal
use Rattle.wire.proofs.get_be.Goals.{In-loop-b}

-- the byte of a turn is one of s
byte : (c : In-loop-b) → get_or (take (c.args.at + c.args.width - c.args.at) (drop c.args.at c.args.s.now)) c.loop-b.b-index 0 < 256
byte c =
    let e = get_in c.args.s.now c.args.at (c.args.at + c.args.width - c.args.at) c.loop-b.b-index (part_below _ _ _ c.loop-b-test.true) in
    omega (arith, e, c.type_inv.s (c.args.at + c.loop-b.b-index))

small : (c : In-loop-b) → c.loop-b.n < 256 ^ 3
small c = get_small _ _ c.loop-b.invariant.0 (omega (arith, part_below _ _ _ c.loop-b-test.true, c.requires.0))

pub loop-b-init : goal.loop-b-init
loop-b-init c = (omega arith, part_here c.args.s.now c.args.at c.args.width)

pub overflow_mul-n : goal.overflow_mul-n
overflow_mul-n c = omega (arith, small c)

pub overflow_add-n : goal.overflow_add-n
overflow_add-n c = omega (arith, small (goal.at.overflow_add-n c).In-loop-b, byte (goal.at.overflow_add-n c).In-loop-b)

pub loop-b-preserved : goal.loop-b-preserved
loop-b-preserved c =
    let l = c.loop-b in
    (get_more _ _ _ l.invariant.0 (byte (goal.at.loop-b-preserved c).In-loop-b), get_step l.n l.b-index _ c.loop-b-test.true ∙ l.invariant.1)

pub returns : goal.returns
returns c = get_done _ _ _ c.loop-b-test.false ∙ c.loop-b.invariant.1
