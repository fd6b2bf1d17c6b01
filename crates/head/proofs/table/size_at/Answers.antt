use native.Mathlib.Omega.{arith}
use Rattle.wire.proofs.Laws.{pair_is}
use Rattle.head.proofs.table.size_at.Goals as goal

pub returns : goal.returns
returns c =
    let a = c.args in
    omega (arith, pair_is a.file.now a.at (omega arith))
