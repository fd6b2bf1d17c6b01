-- `rows_given::given::filled` meets its contract: the cells that there are, and zeros behind them.
use mathlib.Core.Path.{ap, ◌∙◌}
use mathlib.Core.List.{List, ◌++◌}
use Prim.Native.Nat.{ℕ}
use lib.ListN.{drop, replicate}
use Rattle.rows_given.proofs.Low.{first_filled}
use Rattle.rows_given.proofs.given.filled.Goals as goal

pub returns : goal.returns
returns c =
    let m = c.min-m.result in
    ap (λ (xs : List ℕ). xs ++ drop m (replicate 32 0)) c.copy_from_slice.ensures.after ∙ first_filled c.args.cells.now c.args.n m c.requires c.min-m.ensures
