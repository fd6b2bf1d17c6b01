use native.Mathlib.Omega.{arith}
use Rattle.format.proofs.Versions.{no_way}
use Rattle.read_scan.proofs.Compare.{along_start, along_step, along_in, four_same, heads_start, heads_step, heads_done}
use Rattle.read_scan.proofs.alike.heads_alike.Goals as goal

pub bounds-file-e : goal.bounds-file-e
bounds-file-e c = omega (arith, c.requires.1)

pub loop-init : goal.loop-init
loop-init c = (along_start, along_start, heads_start)

pub overflow_add-p : goal.overflow_add-p
overflow_add-p c = omega (arith, along_in c.loop.invariant.0 c.loop-test.true, c.requires.1)

pub overflow_add-q : goal.overflow_add-q
overflow_add-q c = omega (arith, along_in c.loop.invariant.1 c.loop-test.true, c.requires.0)

pub bounds-file-p : goal.bounds-file-p
bounds-file-p c = omega (arith, along_in c.loop.invariant.0 c.loop-test.true, c.requires.1)

pub returns-then-file-p : goal.returns-then-file-p
returns-then-file-p c = no_way

pub overflow_add-p-in-loop : goal.overflow_add-p-in-loop
overflow_add-p-in-loop c = omega (arith, along_in c.loop.invariant.0 c.loop-test.true, c.requires.1)

pub four-requires : goal.four-requires
four-requires c = omega (arith, along_in c.loop.invariant.0 c.loop-test.true, c.requires.1)

pub overflow_add-q-in-loop : goal.overflow_add-q-in-loop
overflow_add-q-in-loop c = omega (arith, along_in c.loop.invariant.1 c.loop-test.true, c.requires.0)

pub four-requires-in-loop : goal.four-requires-in-loop
four-requires-in-loop c = omega (arith, along_in c.loop.invariant.1 c.loop-test.true, c.requires.0)

pub returns-then-four : goal.returns-then-four
returns-then-four c = no_way

pub loop-preserved : goal.loop-preserved
loop-preserved c =
    let i = c.loop.invariant in
    let l = c.loop-test.true in
    let h = c.requires in
    let ids = four_same c.four.ensures c.four-in-loop.ensures c.if-four.false (omega (arith, along_in i.0 l, h.1)) (omega (arith, along_in i.1 l, h.0)) in
    (along_step i.0 l, along_step i.1 l, heads_step i.0 i.1 l i.2 c.if-file-p.false ids)

pub returns : goal.returns
returns c = λ e. heads_done c.loop-test.false c.loop.invariant.2
