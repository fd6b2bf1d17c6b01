use mathlib.Core.Path.{sym, ◌∙◌}
use Prim.Native.Nat.{◌+◌, ◌*◌, ◌-◌, ◌≤◌}
use native.Mathlib.Nat.{zero-add, sub-zero}
use native.Mathlib.Omega.{arith}
use lib.ListN.{length}
use Rattle.frames.specs.Inner.{run_widths}
use Rattle.frames.proofs.CellLaws.{blocks_cells, blocks_here, blocks_skip, blocks_none}
use Rattle.frames.proofs.stores.blocks_exceed.Goals as goal
use Rattle.frames.proofs.stores.blocks_exceed.Goals.{In-loop}

pub loop-init : goal.loop-init
loop-init c = (omega arith, rw (sub-zero, zero-add) c.requires.1, rw sub-zero)

-- the cells of the block at hand, and those of the blocks after it
ahead : (c : In-loop)
    → c.loop.at + (c.args.runs.columns * c.args.rows + (c.args.blocks - (c.loop.counter + 1)) * (length (run_widths c.args.runs) * c.args.rows))
    ≤ length c.args.cells.now
ahead c =
    omega (arith, c.loop.invariant.1, blocks_cells (run_widths c.args.runs) c.args.runs.columns c.requires.0.columns c.args.rows c.args.cells.now c.args.blocks c.loop.counter (omega arith))

pub block_exceeds-requires : goal.block_exceeds-requires
block_exceeds-requires c =
    (c.requires.0, rw (← c.requires.0.columns) (omega (arith, ahead c)))

pub returns-then-block_exceeds : goal.returns-then-block_exceeds
returns-then-block_exceeds c =
    blocks_here _ _ c.requires.0.columns _ _ _ c.loop.counter (omega arith) _ c.loop.at (sym c.block_exceeds.ensures ∙ c.if-block_exceeds.true) c.loop.invariant.2

pub overflow_mul-at : goal.overflow_mul-at
overflow_mul-at c = omega (arith, ahead (goal.at.overflow_mul-at c).In-loop)

pub overflow_add-at : goal.overflow_add-at
overflow_add-at c = omega (arith, ahead (goal.at.overflow_add-at c).In-loop)

pub loop-preserved : goal.loop-preserved
loop-preserved c = (
  omega arith,
  omega (arith, ahead (goal.at.loop-preserved c).In-loop),
  blocks_skip _ _ c.requires.0.columns _ _ _ c.loop.counter (omega arith) _ c.loop.at (sym c.block_exceeds.ensures ∙ c.if-block_exceeds.false) c.loop.invariant.2,
)

pub returns : goal.returns
returns c =
    blocks_none _ _ c.requires.0.columns _ _ _ c.loop.counter (omega arith) _ c.loop.at c.loop.invariant.2
