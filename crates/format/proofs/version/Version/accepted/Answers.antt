use mathlib.Core.Path.{◌∙◌}
use Rattle.format.specs.Version.{accepted_of}
use Rattle.format.proofs.Versions.{le_first, le_last}
use Rattle.format.proofs.version.Version.accepted.Goals as goal

pub returns : goal.returns
unfolding accepted_of
returns c = let v = c.args.self in c.le.ensures ∙ le_first 3 v.major _ _ (le_first 18 v.minor _ _ (le_last 0 v.patch))
