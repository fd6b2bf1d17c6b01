use Rattle.players.specs.Presence.{port_uneven, ports_uneven}
use Rattle.frames.proofs.ports.are_ports_uneven.Goals as goal

pub returns : goal.returns
unfolding ports_uneven
returns c = c.some_port.ensures (port_uneven c.args.f.counts.frames) (λ p b e. search e)
