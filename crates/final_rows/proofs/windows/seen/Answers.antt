use native.Mathlib.Omega.{arith}
use Rattle.final_rows.proofs.Marks.{before_window, after_window, in_window_lem}
use Rattle.final_rows.proofs.windows.seen.Goals as goal

pub returns-then-p-base : goal.returns-then-p-base
returns-then-p-base c =
    let a = c.args in before_window a.base a.p a.marks.now c.if-p-base.true

pub returns-then-q-ge-IDS : goal.returns-then-q-ge-IDS
returns-then-q-ge-IDS c =
    let a = c.args in after_window a.base a.p a.marks.now (omega arith) (omega arith)

pub returns : goal.returns
returns c =
    let a = c.args in in_window_lem a.base a.p a.marks.now (omega arith) (omega arith)
