use mathlib.Core.Path.{refl}
use native.Mathlib.Omega.{arith}
use Rattle.format.proofs.Tests.{tested, rest_here, rest_skip, rest_none}
use Rattle.game.specs.Frames.{no_port}
use Rattle.frames.proofs.ports.some_port.Goals as goal

pub loop-j-init : goal.loop-j-init
loop-j-init g c = λ p q. refl

pub returns-then-test : goal.returns-then-test
returns-then-test g c = λ p q.
    rest_here no_port p _ _ c.loop-j.j (omega arith) (tested p c.port.ensures (q _ _ c.test.ensures) c.if-test.true) (c.loop-j.invariant p q)

pub loop-j-preserved : goal.loop-j-preserved
loop-j-preserved g c = λ p q.
    rest_skip no_port p _ _ c.loop-j.j (omega arith) (tested p c.port.ensures (q _ _ c.test.ensures) c.if-test.false) (c.loop-j.invariant p q)

pub returns : goal.returns
returns g c = λ p q. rest_none p _ _ c.loop-j.j (omega arith) (c.loop-j.invariant p q)
