use mathlib.Core.Path.{◌≡◌}
use Prim.Native.Nat.{◌+◌, ◌*◌, ◌≤◌, ◌<◌}
use native.Mathlib.Omega.{arith}
use lib.ListN.{length}
use Rattle.wire.proofs.Writers.{range_start, range_room, range_step, range_done, wrote_byte}
use Rattle.rows_run.specs.Inner.{strided}
use Rattle.rows_run.proofs.fill.put_cells.Goals as goal
use Rattle.rows_run.proofs.fill.put_cells.Goals.{In-loop-k}

pub loop-k-init : goal.loop-k-init
unfolding strided
loop-k-init c = let e : c.args.at + 0 ≡ c.args.at = omega arith in (omega arith, rw e (range_start _ _))

-- the next cell is there
there : (c : In-loop-k) → c.args.first + c.loop-k.k * c.args.step < length c.args.cells.now
there c = c.requires.1.each c.loop-k.k c.loop-k-test.true

-- there is room for it
room : (c : In-loop-k) → c.args.at + c.loop-k.k + 1 ≤ length c.loop-k.out
room c =
    let l = c.loop-k in
    (range_room _ l.k _ l.invariant.1 c.loop-k-test.true c.requires.0).fits

pub loop-k-preserved : goal.loop-k-preserved
loop-k-preserved c =
    let l = c.loop-k in
    let e : c.args.at + (l.k + 1) ≡ c.args.at + l.k + 1 = omega arith in
    (omega arith, rw e (range_step _ l.k _ l.invariant.1 c.loop-k-test.true (wrote_byte l.out (c.args.at + l.k) _)))

pub bounds-out-at : goal.bounds-out-at
bounds-out-at c = omega (arith, room (goal.at.bounds-out-at c).In-loop-k)

pub returns : goal.returns
returns c =
    let e : c.args.at + c.args.n ≡ c.args.at + c.loop-k.k = omega arith in
    rw e (range_done _ _ _ c.loop-k.invariant.1 c.loop-k-test.false)
