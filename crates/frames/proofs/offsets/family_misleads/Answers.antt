use Rattle.frames.proofs.OffsetLaws.{misleads_has, misleads_lacks}
use Rattle.frames.proofs.offsets.family_misleads.Goals as goal

pub returns-then-exists : goal.returns-then-exists
returns-then-exists c =
    misleads_has c.args.f c.args.family _ _ c.exists.ensures _ c.rows-rows.ensures _ c.if-exists.true c.offsets_stray.ensures

pub returns : goal.returns
returns c =
    misleads_lacks c.args.f c.args.family _ _ c.exists.ensures _ c.rows-rows.ensures c.if-exists.false
