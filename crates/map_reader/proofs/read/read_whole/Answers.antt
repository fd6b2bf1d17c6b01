use mathlib.Core.Path.{refl}
use native.Mathlib.Omega.{arith}
use Rattle.map.proofs.Numbers.{some_number}
use Rattle.map_reader.proofs.Going.{passed_on}
use Rattle.map_reader.proofs.Answers.{told_refused, told_whole, told_more, told_as}
use Rattle.map_reader.proofs.read.read_whole.Goals as goal

pub returns-in_err-g : goal.returns-in_err-g
returns-in_err-g c = rw (passed_on _ c.from_residual.ensures.1) (told_refused _ c.in_err-g.ensures.0 c.in_err-g.ensures.1 (some_number _))

pub returns-then-g-b : goal.returns-then-g-b
returns-then-g-b c = let w = c.in_ok-g.ensures.2 refl in told_whole _ c.in_ok-g.ensures.0 c.in_ok-g.ensures.1 refl c.if-g-b.true (omega (arith, w.0)) w.2

pub returns : goal.returns
returns c =
    told_as c.wrong.ensures (told_more _ c.in_ok-g.ensures.0 c.in_ok-g.ensures.1 refl c.if-g-b.false c.other_wrong.ensures.0
    c.other_wrong.ensures.1)
