use mathlib.Core.Path.{◌≡◌}
use Prim.Native.Nat.{◌-◌}
use native.Mathlib.Omega.{arith}
use Rattle.layout.proofs.Runs.{run_start, run_more}
use Rattle.layout.proofs.listing.alike.Goals as goal

pub loop-m-init : goal.loop-m-init
loop-m-init c = (omega arith, omega arith, run_start _ _ (omega arith))

pub returns-then-widths-k : goal.returns-then-widths-k
returns-then-widths-k c = c.loop-m.invariant

pub loop-m-preserved : goal.loop-m-preserved
loop-m-preserved c =
    let l = c.loop-m in
    (omega arith, omega arith, run_more _ _ l.m _ (omega arith) c.if-widths-k.false l.invariant.2)

pub returns : goal.returns
returns c = let e : c.loop-m.m ≡ c.args.n - c.args.k = omega arith in rw e at c.loop-m.invariant
