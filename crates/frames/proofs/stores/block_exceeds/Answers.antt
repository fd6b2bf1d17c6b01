use mathlib.Core.Path.{refl, sym, ◌∙◌}
use Prim.Native.Nat.{◌+◌, ◌*◌, ◌≤◌}
use native.Mathlib.Omega.{arith}
use lib.ListN.{length, get_or}
use Rattle.frames.proofs.CellLaws.{runs_from, runs_cells, runs_here, runs_skip, runs_done, columns_none}
use Rattle.frames.proofs.stores.block_exceeds.Goals as goal
use Rattle.frames.proofs.stores.block_exceeds.Goals.{After-n-1}

pub loop-k-init : goal.loop-k-init
unfolding runs_from
loop-k-init c = (omega arith, c.requires.0.few, c.requires.1, refl)

-- the cells of the run at hand, and those of the runs after it
ahead : (c : After-n-1)
    → c.loop-k.from + (get_or c.args.runs.lengths
    c.loop-k.k 0 * c.args.rows + length
    (runs_from c.args.runs (c.loop-k.k + 1)) * c.args.rows)
    ≤ length c.args.cells.now
ahead c =
    omega (arith, c.loop-k.invariant.2, runs_cells c.args.runs c.requires.0 c.loop-k.k (omega arith) c.args.rows c.args.cells.now)

pub overflow_mul-end : goal.overflow_mul-end
overflow_mul-end c = omega (arith, ahead c)

pub overflow_add-end : goal.overflow_add-end
overflow_add-end c = omega (arith, ahead c)

pub run_exceeds-requires : goal.run_exceeds-requires
run_exceeds-requires c = omega (arith, ahead c)

pub returns-then-run_exceeds : goal.returns-then-run_exceeds
returns-then-run_exceeds c =
    runs_here c.args.runs c.requires.0 c.loop-k.k (omega arith) _ _ _ c.loop-k.from (sym c.run_exceeds.ensures ∙ c.if-run_exceeds.true) c.loop-k.invariant.3

pub loop-k-preserved : goal.loop-k-preserved
loop-k-preserved c = (
  omega arith,
  c.loop-k.invariant.1,
  omega (arith, ahead (goal.at.loop-k-preserved c).After-n-1),
  runs_skip c.args.runs c.requires.0 c.loop-k.k (omega arith) _ _ _ c.loop-k.from (sym c.run_exceeds.ensures ∙ c.if-run_exceeds.false) c.loop-k.invariant.3,
)

pub returns : goal.returns
returns c =
    columns_none _ _ _ _ (runs_done c.args.runs c.requires.0 c.loop-k.k (omega arith)) c.loop-k.invariant.3
