use native.Mathlib.Omega.{arith}
use Rattle.read_order.proofs.Steps.{player_is, player_not}
use Rattle.read_order.proofs.stage.is_player.Goals as goal

pub returns-then-w-le3 : goal.returns-then-w-le3
returns-then-w-le3 c = player_is c.args.w (omega arith)

pub returns : goal.returns
returns c = player_not c.args.w (omega arith)
