use native.Mathlib.Omega.{arith}
use Rattle.read_lists.proofs.Lists.{tabled}
use borrow.Author.Rules.{rules}
use Rattle.read_lists.proofs.fill.put_all.Reads as reads
use Rattle.read_lists.proofs.fill.put_all.Lts as lts
use Rattle.read_lists.proofs.fill.put_family.Reads as put-family-reads
use Rattle.read_lists.proofs.fill.put_all.Goals as goal

pub returns : goal.returns
returns c =
    let one = c.put_family-start.ensures in
    let two = c.put_family-end.ensures in
    let three = c.put_family-item.ensures in
    let four = c.put_family-fod.ensures in
    let five = c.put_family-whispy.ensures in
    let six = c.put_family-stadium.ensures in
    tabled _ _ one.0 two.0 three.0 four.0 five.0 six.0 (omega (arith, one.1, two.1, three.1, four.1, five.1, six.1, c.requires))
