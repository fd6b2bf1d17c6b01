use mathlib.Core.Path.{refl}
use Rattle.format.proofs.Tests.{one_or, one_last}
use Rattle.frames.specs.Judge.{too_many}
use Rattle.frames.proofs.judge.too_many.Goals as goal

pub returns : goal.returns
unfolding too_many
returns c =
    one_or _ _ _ _ refl
    (one_or _ _ _ _ refl (one_or _ _ _ _ refl (one_or _ _ _ _ refl (one_or _ _ _ _ refl (one_or _ _ _ _ refl (one_last _ _ refl))))))
