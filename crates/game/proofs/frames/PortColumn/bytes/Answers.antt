use native.Mathlib.Omega.{arith}
use Rattle.game.proofs.Ports.{bytes_both, bytes_one}
use Rattle.game.proofs.frames.PortColumn.bytes.Goals as goal

pub overflow_add-result : goal.overflow_add-result
overflow_add-result c =
    omega (arith, bytes_both c.args.self _ c.has_follower.ensures c.if-has_follower.true, c.requires)

pub returns-then-has_follower : goal.returns-then-has_follower
returns-then-has_follower c = bytes_both _ _ c.has_follower.ensures c.if-has_follower.true

pub returns : goal.returns
returns c = bytes_one _ _ c.has_follower.ensures c.if-has_follower.false
