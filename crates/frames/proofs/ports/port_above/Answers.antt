use mathlib.Core.Path.{ap, ◌∙◌}
use lib.Dec.{ltb}
use Rattle.format.specs.Refusal.{one_of}
use Rattle.frames.proofs.PortLaws.{numbers_from}
use Rattle.frames.proofs.ports.port_above.Goals as goal

pub returns : goal.returns
returns c = c.some_port.ensures (λ p. ltb 3 p.port) (λ p b e. search e) ∙ ap one_of (numbers_from (ltb 3) c.args.f 0)
