use Rattle.format.proofs.Tests.{one_or, one_last}
use Rattle.frames.specs.Judge.{offsets_mislead}
use Rattle.frames.proofs.offsets.offsets_mislead.Goals as goal

pub returns : goal.returns
unfolding offsets_mislead
returns c =
    one_or _ _ _ _ c.family_misleads-item.ensures
    (one_or _ _ _ _ c.family_misleads-fod.ensures (one_or _ _ _ _ c.family_misleads-whispy.ensures (one_last _ _ c.family_misleads-stadium.ensures)))
