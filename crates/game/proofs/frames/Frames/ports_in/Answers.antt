use native.Mathlib.Omega.{arith}
use Rattle.game.proofs.Ports.{length_ports}
use Rattle.game.proofs.frames.Frames.ports_in.Goals as goal

pub returns : goal.returns
returns c = omega (arith, length_ports c.args.self, c.min.ensures)
