use Rattle.read_places.proofs.Scans.{is_pre, is_other}
use Rattle.read_places.proofs.scan.is_players.Goals as goal

pub returns-then-code-eq-FRAME_PRE : goal.returns-then-code-eq-FRAME_PRE
returns-then-code-eq-FRAME_PRE c = is_pre _ c.if-code-eq-FRAME_PRE.true

pub returns : goal.returns
returns c = is_other _ c.if-code-eq-FRAME_PRE.false
