-- `rollback::rollbacks` meets its contract: each return is one way that a call ends, and only the last has changed a lent byte.
use mathlib.Core.Path.{sym, ◌∙◌}
use native.Mathlib.Omega.{arith}
use lib.ListN.{length}
use lib.Seq.{length-take-le}
use Rattle.rollback.proofs.Outcomes.{too_many_lem, mask_short, out_of_range, scratch_short, written}
use Rattle.rollback.proofs.rollbacks.Goals as goal
use Rattle.rollback.proofs.rollbacks.Goals.{After-sweep-arg-1}

pub returns-then-frames-gt-COUNT : goal.returns-then-frames-gt-COUNT
returns-then-frames-gt-COUNT c = too_many_lem (omega arith)

pub returns-then-mask-frames : goal.returns-then-mask-frames
returns-then-mask-frames c = mask_short (omega arith) (omega arith)

pub returns-then-need-gt-COUNT : goal.returns-then-need-gt-COUNT
returns-then-need-gt-COUNT c = out_of_range (omega arith) (omega arith) (omega arith)

pub returns-then-scratch-need : goal.returns-then-scratch-need
returns-then-scratch-need c = scratch_short (omega arith) (omega arith) (omega arith) (omega arith)

-- the parts that are lent are as long as they are asked to be
pub slice_bounds-sweep-end-2 : goal.slice_bounds-sweep-end-2
slice_bounds-sweep-end-2 c = let a = c.args in sym (length-take-le (length a.ids.now) a.mask.now (omega arith))

pub slice_bounds-sweep-end-4 : goal.slice_bounds-sweep-end-4
slice_bounds-sweep-end-4 c =
    sym (length-take-le c.scratch_len-need.result c.args.scratch.now (omega arith))

pub sweep-requires : goal.sweep-requires
sweep-requires c =
    (sym (slice_bounds-sweep-end-2 (goal.at.sweep-requires c).After-sweep-arg-1), sym (slice_bounds-sweep-end-4 c) ∙ c.scratch_len-need.ensures, omega arith)

pub returns : goal.returns
returns c =
    written (omega arith) (omega arith) (omega arith) (omega arith) c.scratch_len-need.ensures c.sweep.ensures.0 c.sweep.ensures.1
