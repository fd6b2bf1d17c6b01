use mathlib.Core.Path.{sym, ap, ◌∙◌}
use Prim.Native.Nat.{ℕ, ◌<◌}
use native.Mathlib.Omega.{arith}
use lib.ListN.{length, replicate}
use Rattle.rollback.proofs.Places.{placed}
use Rattle.rollback.proofs.Turns.{swept_length, swept_none, swept_all, place_below, swept_more}
use Rattle.rollback.proofs.sweep.Goals as goal
use Rattle.rollback.proofs.sweep.Goals.{After-slice_known-in-loop-k-1}

-- the function's entry, and the loop's head
pub loop-k-init : goal.loop-k-init
loop-k-init c =
    swept_none c.requires.0 (c.fill.ensures.after (λ y e. e) ∙ ap (λ (n : ℕ). replicate n 0) c.requires.1)

-- the place is in the marks
in-marks : (c : After-slice_known-in-loop-k-1) → c.place_of-p.result < length c.loop-k.marks
in-marks c = place_below c.loop-k.invariant (omega arith) c.turn-i.ensures.0 c.place_of-p.ensures.0

pub bounds-mask-i : goal.bounds-mask-i
bounds-mask-i c = omega (arith, c.loop-k.invariant.long)

pub loop-k-preserved : goal.loop-k-preserved
loop-k-preserved c =
    swept_more c.loop-k.invariant (omega arith) c.turn-i.ensures.0 c.place_of-p.ensures.0
    (placed c.args.ids.now c.shared_slice_known-in-loop-k-1.given c.requires.2)

pub shape_of-mask : goal.shape_of-mask
shape_of-mask c = c.loop-k.invariant.long ∙ sym c.requires.0

pub shape_of-marks : goal.shape_of-marks
shape_of-marks c = swept_length c.loop-k.invariant ∙ sym c.requires.1

pub returns : goal.returns
returns c = swept_all c.loop-k-test.false c.loop-k.invariant

pub bounds-marks-p : goal.bounds-marks-p
bounds-marks-p c = in-marks c

pub bounds-marks-p-in-loop-k : goal.bounds-marks-p-in-loop-k
bounds-marks-p-in-loop-k c = in-marks c
