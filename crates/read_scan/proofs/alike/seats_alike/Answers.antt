use native.Mathlib.Omega.{arith}
use Rattle.format.proofs.Versions.{no_way}
use Rattle.read_scan.proofs.Compare.{along_start, along_step, along_in, seats_start, seats_step, seats_done}
use Rattle.read_scan.proofs.alike.seats_alike.Goals as goal

pub overflow_add-e : goal.overflow_add-e
overflow_add-e c = omega (arith, c.requires)

pub two-seat-requires : goal.two-seat-requires
two-seat-requires c = omega (arith, c.requires)

pub loop-init : goal.loop-init
loop-init c = (along_start, seats_start)

pub overflow_add-p : goal.overflow_add-p
overflow_add-p c = omega (arith, along_in c.loop.invariant.0 c.loop-test.true, c.requires)

pub overflow_add-p-in-loop : goal.overflow_add-p-in-loop
overflow_add-p-in-loop c = omega (arith, along_in c.loop.invariant.0 c.loop-test.true, c.requires)

pub two-requires : goal.two-requires
two-requires c = omega (arith, along_in c.loop.invariant.0 c.loop-test.true, c.requires)

pub returns-then-two-seat : goal.returns-then-two-seat
returns-then-two-seat c = no_way

pub loop-preserved : goal.loop-preserved
loop-preserved c =
    let i = c.loop.invariant in
    let l = c.loop-test.true in
    (along_step i.0 l, seats_step i.0 l i.1 c.two.ensures c.two-seat.ensures c.if-two-seat.false)

pub returns : goal.returns
returns c = λ e. seats_done c.loop-test.false c.loop.invariant.1
