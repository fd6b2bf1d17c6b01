use native.Mathlib.Omega.{arith}
use Rattle.format.proofs.Versions.{no_way}
use Rattle.read_scan.proofs.Compare.{along_start, along_step, along_in, starts_start, starts_step, starts_done}
use Rattle.read_scan.proofs.alike.starts_alike.Goals as goal

pub bounds-file-last : goal.bounds-file-last
bounds-file-last c = omega (arith, c.requires)

pub loop-init : goal.loop-init
loop-init c = (along_start, starts_start)

pub overflow_add-p : goal.overflow_add-p
overflow_add-p c = omega (arith, along_in c.loop.invariant.0 c.loop-test.true, c.requires)

pub bounds-file-p : goal.bounds-file-p
bounds-file-p c = omega (arith, along_in c.loop.invariant.0 c.loop-test.true, c.requires)

pub returns-then-file-p : goal.returns-then-file-p
returns-then-file-p c = no_way

pub loop-preserved : goal.loop-preserved
loop-preserved c = let i = c.loop.invariant in let l = c.loop-test.true in (along_step i.0 l, starts_step i.0 l i.1 c.if-file-p.false)

pub returns : goal.returns
returns c = λ e. starts_done c.loop-test.false c.loop.invariant.1
