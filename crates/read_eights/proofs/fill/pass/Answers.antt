use native.Mathlib.Omega.{arith}
use Rattle.read_eights.proofs.Passing.{table_whole, table_long, nothing_done}
use borrow.Author.Rules.{rules}
use Rattle.read_eights.proofs.fill.pass.Reads as reads
use Rattle.read_eights.proofs.fill.pass.Lts as lts
use Rattle.read_eights.proofs.fill.pass_by.Reads as pass-by-reads
use Rattle.read_eights.proofs.fill.pass.Goals as goal

pub pass_by-requires : goal.pass_by-requires
pass_by-requires c =
    let h = c.requires in
    (h.0, h.1, h.2, table_long c.args.first, table_whole _ _ _ _ h.1 c.if-first-stop.true)

pub returns-else-first-stop : goal.returns-else-first-stop
returns-else-first-stop c = λ es x. nothing_done _ _ _ _ _ _ _ c.requires.0 (omega (arith, c.if-first-stop.false)) es x
