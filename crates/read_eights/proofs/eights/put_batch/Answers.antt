use mathlib.Core.Path.{◌∙◌}
use Rattle.read_eights.proofs.Places.{batch_team}
use borrow.Author.Rules.{rules}
use Rattle.read_eights.proofs.eights.put_batch.Reads as reads
use Rattle.read_eights.proofs.eights.put_batch.Lts as lts
use Rattle.read_eights.proofs.eights.put_frames.Reads as put-frames-reads
use Rattle.read_eights.proofs.eights.put_team.Reads as put-team-reads
use Rattle.read_eights.proofs.eights.put_batch.Goals as goal

pub returns-then-n-gt0 : goal.returns-then-n-gt0
returns-then-n-gt0 c = c.put_team.ensures ∙ batch_team _ _ _ _ _ _ _ c.if-many-eq8.true
