use native.Mathlib.Omega.{arith}
use Rattle.layout.proofs.Laws.{count_is}
use Rattle.names.proofs.Called.{describes_none, describes}
use Rattle.names.proofs.columns.column.Goals as goal

pub returns-then-count-n : goal.returns-then-count-n
returns-then-count-n c = describes_none c.args.f c.args.n c.count.ensures c.if-count-n.true c.no_column.ensures

pub nth-since-requires : goal.nth-since-requires
nth-since-requires c = omega (arith, c.if-count-n.false, c.count.ensures, count_is c.args.f)

pub of_family-by-requires : goal.of_family-by-requires
of_family-by-requires c = omega (arith, c.if-count-n.false, c.count.ensures, count_is c.args.f)

pub returns : goal.returns
returns c =
    describes c.args.f c.args.n c.count.ensures c.if-count-n.false c.nth-since.ensures c.of_family-by.ensures
