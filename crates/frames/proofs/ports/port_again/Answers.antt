use mathlib.Core.Path.{ap, ◌∙◌}
use lib.Dec.{eqb}
use Rattle.format.specs.Refusal.{one_of}
use Rattle.frames.proofs.PortLaws.{numbers_from}
use Rattle.frames.proofs.ports.port_again.Goals as goal

pub returns : goal.returns
returns c =
    c.some_port.ensures (λ p. eqb c.args.port p.port) (λ p b e. search e) ∙ ap one_of (numbers_from (eqb c.args.port) c.args.f c.args.k)
