use native.Mathlib.Omega.{arith}
use Rattle.frames.proofs.PortLaws.{length_numbers, number_at}
use Rattle.frames.proofs.ports.port_number.Goals as goal

pub port-p-requires : goal.port-p-requires
port-p-requires c = omega (arith, length_numbers c.args.f)

pub returns : goal.returns
returns c = number_at _ _ _ c.port-p.ensures
