use borrow.Author.Tests.{leb-true}
use native.Mathlib.Omega.{arith}
use mathlib.Core.Path.{sym}
use Rattle.head.proofs.Filled.{zero_data, cut_data, whole_data}
use Rattle.head.proofs.table.bounds_of.Goals as goal
use Rattle.head.proofs.table.bounds_of.Goals.{else-declared-gt0-via-then-declared-gt0+else-declared-file, else-declared-gt0-via-else-declared-gt0}

pub returns-then-declared-file : goal.returns-then-declared-file
returns-then-declared-file c =
    let f = c.args.file.now in
    let w = whole_data f (omega arith) (omega (arith, leb-true)) in
    (omega (arith, w.0), sym w.1, omega (arith, leb-true))

pub returns-else-declared-gt0 : goal.returns-else-declared-gt0
returns-else-declared-gt0 c =
    let f = c.args.file.now in
    elim c.else-declared-gt0.branch [
      | else-declared-gt0-via-then-declared-gt0+else-declared-file w ↦
          let d = cut_data f (omega (arith, w.if-declared-gt0.true)) (omega (arith, w.if-declared-file.false)) in (sym d.0, sym d.1, omega arith)
      | else-declared-gt0-via-else-declared-gt0 w ↦ let d = zero_data f (omega (arith, w.if-declared-gt0.false)) in (sym d.0, sym d.1, omega arith)
    ]
