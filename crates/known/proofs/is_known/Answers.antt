use mathlib.Core.Path.{refl}
use Rattle.format.proofs.Tests.{one_or, one_last}
use Rattle.known.specs.Known.{is_known}
use Rattle.known.proofs.is_known.Goals as goal

pub returns : goal.returns
unfolding is_known
returns c =
    one_or _ _ _ _ refl
    (one_or _ _ _ _ refl
    (one_or _ _ _ _ refl
    (one_or _ _ _ _ refl
    (one_or _ _ _ _ refl
    (one_or _ _ _ _ refl
    (one_or _ _ _ _ refl
    (one_or _ _ _ _ refl
    (one_or _ _ _ _ refl
    (one_or _ _ _ _ refl
    (one_or _ _ _ _ refl (one_or _ _ _ _ refl (one_last _ _ refl))))))))))))
