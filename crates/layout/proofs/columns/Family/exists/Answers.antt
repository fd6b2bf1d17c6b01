use mathlib.Core.Path.{ap, ◌∙◌}
use Rattle.format.specs.Version.{gte_of}
use Rattle.format.specs.declared.version.Version.{Version}
use Rattle.layout.specs.Columns.{has_family}
use Rattle.layout.proofs.columns.Family.exists.Goals as goal

pub returns : goal.returns
unfolding has_family
returns c = c.gte.ensures ∙ ap (λ (w : Version). gte_of c.args.v w.major w.minor) c.first_version-first.ensures
