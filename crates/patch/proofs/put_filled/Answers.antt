use native.Mathlib.Omega.{arith}
use Rattle.patch.proofs.Viewed.{field_filled}
use Rattle.patch.proofs.put_filled.Goals as goal

pub returns : goal.returns
returns c =
    field_filled _ _ (omega arith) (omega arith) (omega arith) c.put_first-next.ensures.0 c.put_zeros.ensures
