-- There is room for two bytes, whatever they are.
use native.Mathlib.Omega.{arith}
use Rattle.wire.specs.Wire.{be}
use Rattle.wire.proofs.put_u16.Goals as goal

pub put_be-requires : goal.put_be-requires
unfolding be
put_be-requires c = (omega arith, record { fits = c.requires.fits })
