use mathlib.Core.Path.{◌∙◌}
use mathlib.Core.List.{[], ◌∷◌}
use Rattle.transpose.proofs.Shown.{four_shown}
use Rattle.transpose.proofs.ports.ports_at.Goals as goal

pub returns : goal.returns
returns c =
    (λ i. c.port_at-a.ensures i ∷ c.port_at-b.ensures i ∷ c.port_at-c.ensures i ∷ c.port_at-d.ensures i ∷ [])
    ∙ four_shown _ _ _ _ _ _

pub port_at-a-requires : goal.port_at-a-requires
port_at-a-requires c = c.requires

pub port_at-b-requires : goal.port_at-b-requires
port_at-b-requires c = c.requires

pub port_at-c-requires : goal.port_at-c-requires
port_at-c-requires c = c.requires

pub port_at-d-requires : goal.port_at-d-requires
port_at-d-requires c = c.requires
