use native.Mathlib.Omega.{arith}
use Rattle.game.proofs.Ports.{length_ports, port_at_lem}
use Rattle.game.proofs.frames.Frames.port.Goals as goal

pub offset_bounds-self-k : goal.offset_bounds-self-k
offset_bounds-self-k c = omega (arith, length_ports c.args.self)

pub bounds-self-k : goal.bounds-self-k
bounds-self-k c = omega (arith, length_ports c.args.self)

pub returns : goal.returns
returns c = port_at_lem c.args.self c.args.k c.requires
