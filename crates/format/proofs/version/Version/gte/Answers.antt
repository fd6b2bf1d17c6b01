use mathlib.Core.Path.{◌∙◌}
use Rattle.format.specs.Version.{gte_of}
use Rattle.format.proofs.Versions.{le_first, le_last}
use Rattle.format.proofs.version.Version.gte.Goals as goal

pub returns : goal.returns
unfolding gte_of
returns c = let a = c.args in c.le.ensures ∙ le_first a.self.major a.major _ _ (le_last a.self.minor a.minor)
