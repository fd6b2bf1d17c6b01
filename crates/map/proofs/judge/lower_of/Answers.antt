use mathlib.Core.Path.{refl}
use Rattle.std.specs.Prelude.{Some}
use Rattle.map.proofs.Laws.{lower_low, lower_high}
use Rattle.map.proofs.judge.lower_of.Goals as goal

pub returns-then-number : goal.returns-then-number
returns-then-number c = lower_low {a = Some c.args.x} {b = Some c.args.y} refl refl c.number.ensures c.number-2.ensures c.if-number.true

pub returns : goal.returns
returns c = lower_high {a = Some c.args.x} {b = Some c.args.y} refl refl c.number.ensures c.number-2.ensures c.if-number.false
