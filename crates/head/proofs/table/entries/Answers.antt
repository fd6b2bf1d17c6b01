use mathlib.Core.Path.{refl}
use native.Mathlib.Omega.{arith}
use Rattle.head.proofs.Heads.{filling_more, filling_done}
use Rattle.head.proofs.table.entries.Goals as goal

pub loop-i-init : goal.loop-i-init
loop-i-init c = record { many = refl; many' = refl; codes_are = λ k h. absurd (omega arith); sizes_are = λ k h. absurd (omega arith) }

pub loop-i-preserved : goal.loop-i-preserved
loop-i-preserved c =
    filling_more c.loop-i.invariant _ _ (omega arith) refl c.size_at.ensures

pub returns : goal.returns
returns c =
    let g = c.loop-i.invariant in
    (filling_done g _ (omega arith), record { few = omega arith; codes_many = g.many; sizes_many = g.many' })
