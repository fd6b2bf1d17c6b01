use native.Mathlib.Omega.{arith}
use Prim.Native.Nat.{◌≤◌}
use mathlib.Core.Path.{sym}
use lib.ListN.{length}
use lib.Seq.{length-take-le}
use Rattle.wire.proofs.Writers.{wrote_length}
use Rattle.walk_line.proofs.report.Goals as goal

pub returns : goal.returns
returns c =
    let p = c.put_line.ensures in
    let l : c.put_line.result ≤ length c.put_line.new.out = omega (arith, p.1, wrote_length p.0.wrote) in
    record { prefix_len = (l, sym (length-take-le _ _ l)); put = rw (← c.walk_input-w.ensures) p.0 }
