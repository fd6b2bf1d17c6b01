use borrow.Author.Rules.{rules}
use native.Mathlib.Omega.{arith}
use Rattle.repair_scan.proofs.Laws.{ends_beyond, ends_long, ends_good, ends_wrong}
use Rattle.repair_scan.proofs.ends.ends_to.Goals as goal

pub returns-in-Good : goal.returns-in-Good
returns-in-Good c =
    let s = c.is_short in
    let e = c.ends-e in
    ends_good _ _ _ _ _ _ c.if-to-stop.true s.result s.ensures c.if-is_short.true e.result e.ensures _ c.in-Good.is

pub returns-in-Wrong : goal.returns-in-Wrong
returns-in-Wrong c =
    let s = c.is_short in
    let e = c.ends-e in
    ends_wrong _ _ _ _ _ _ c.if-to-stop.true s.result s.ensures c.if-is_short.true e.result e.ensures c.in-Wrong.is

pub returns-else-is_short : goal.returns-else-is_short
returns-else-is_short c = ends_long _ _ _ _ _ _ c.if-to-stop.true c.is_short.result c.is_short.ensures c.if-is_short.false

pub returns-else-to-stop : goal.returns-else-to-stop
returns-else-to-stop c = ends_beyond _ _ _ _ _ _ (omega arith)
