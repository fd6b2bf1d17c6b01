use mathlib.Core.Path.{refl}
use Rattle.map.proofs.Numbers.{some_number}
use Rattle.check_file.proofs.Tails.{body_refused, body_as}
use Rattle.check_file.proofs.tail.is_body.Goals as goal

pub returns-in-Err : goal.returns-in-Err
returns-in-Err c = body_refused c.args.body.now _ _ c.in-Err.ensures.0 c.in-Err.ensures.1 (some_number _)

pub returns-in-Ok : goal.returns-in-Ok
returns-in-Ok c = body_as c.args.body.now _ _ c.in-Ok.ensures.0 c.in-Ok.ensures.1 refl _ refl
