use native.Mathlib.Omega.{arith}
use Rattle.map_reader.proofs.Steps.{long_cut, long_negative, long_is}
use Rattle.map_reader.proofs.get.is_long.Goals as goal

pub returns-then-b-p : goal.returns-then-b-p
returns-then-b-p c = long_cut _ _ _ (omega (arith, c.requires.0, c.if-b-p.true))

pub returns-then-b-p-ge128 : goal.returns-then-b-p-ge128
returns-then-b-p-ge128 c = long_negative _ _ _ (omega (arith, c.requires.0, c.if-b-p.false)) c.if-b-p-ge128.true

pub get_be-requires : goal.get_be-requires
get_be-requires c = (c.requires.2, omega (arith, c.requires.0, c.if-b-p.false))

pub returns : goal.returns
returns c = long_is _ _ _ (omega (arith, c.requires.0, c.if-b-p.false)) (omega (arith, c.if-b-p-ge128.false)) c.get_be.ensures
