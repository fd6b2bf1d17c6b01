use mathlib.Core.Path.{◌≡◌}
use Prim.Native.Nat.{◌+◌}
use native.Mathlib.Omega.{arith}
use lib.ListN.{length, drop_of_length-le}
use Rattle.wire.proofs.Laws.{rest_step}
use Rattle.wire.proofs.Writers.{left_start, left_step, left_done, wrote_byte}
use Rattle.wire.proofs.put_bytes.Goals as goal

pub loop-k-init : goal.loop-k-init
loop-k-init c = let e : c.args.at + 0 ≡ c.args.at = omega arith in (omega arith, rw e left_start)

pub bounds-out-at : goal.bounds-out-at
bounds-out-at c = omega (arith, c.requires.fits, c.loop-k.invariant.1.same)

pub loop-k-preserved : goal.loop-k-preserved
loop-k-preserved c =
    let l = c.loop-k in
    let e : c.args.at + (l.k + 1) ≡ c.args.at + l.k + 1 = omega arith in
    (omega arith, rw e (left_step l.invariant.1 (rest_step l.k _ c.loop-k-test.true) (wrote_byte l.out (c.args.at + l.k) _)))

pub returns : goal.returns
returns c =
    let e : c.args.at + length c.args.src.now ≡ c.args.at + c.loop-k.k = omega arith in
    rw e (left_done c.loop-k.invariant.1 (drop_of_length-le _ c.loop-k-test.false))
