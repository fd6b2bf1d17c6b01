use mathlib.Core.Path.{refl}
use Rattle.format.proofs.Tests.{one_or, one_last}
use Rattle.measure.specs.Inner.{short_by}
use Rattle.measure.proofs.short.short.Goals as goal

pub returns : goal.returns
unfolding short_by
returns c =
    one_or _ _ _ _ refl
    (one_or _ _ _ _ refl
    (one_or _ _ _ _ refl
    (one_or _ _ _ _ refl
    (one_or _ _ _ _ refl
    (one_or _ _ _ _ refl
    (one_or _ _ _ _ refl
    (one_or _ _ _ _ refl
    (one_or _ _ _ _ refl
    (one_or _ _ _ _ refl
    (one_or _ _ _ _ refl (one_or _ _ _ _ refl (one_or _ _ _ _ refl (one_or _ _ _ _ refl (one_last _ _ refl))))))))))))))
