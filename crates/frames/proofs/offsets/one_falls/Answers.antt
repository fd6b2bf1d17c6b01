use mathlib.Core.Path.{refl}
use native.Mathlib.Omega.{arith}
use Rattle.frames.proofs.OffsetLaws.{falls_more, falls_done}
use Rattle.frames.proofs.offsets.one_falls.Goals as goal

pub loop-i-init : goal.loop-i-init
loop-i-init c = (omega arith, refl)

pub loop-i-preserved : goal.loop-i-preserved
loop-i-preserved c =
    let l = c.loop-i in
    (omega arith, falls_more l.found _ l.i l.invariant.1 l.invariant.0 (omega arith))

pub returns : goal.returns
returns c = falls_done c.loop-i.found _ c.loop-i.i c.loop-i.invariant.1 (omega arith)
