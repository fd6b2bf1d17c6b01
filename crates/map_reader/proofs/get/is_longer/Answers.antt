use native.Mathlib.Omega.{arith}
use Rattle.map_reader.proofs.Steps.{long_cut, long_negative, longer_high, longer_low}
use Rattle.map_reader.proofs.get.is_longer.Goals as goal

pub returns-then-b-p-lt8 : goal.returns-then-b-p-lt8
returns-then-b-p-lt8 c = long_cut _ _ _ (omega (arith, c.requires, c.if-b-p-lt8.true))

pub returns-then-b-p-ge128 : goal.returns-then-b-p-ge128
returns-then-b-p-ge128 c = long_negative _ _ _ (omega (arith, c.requires, c.if-b-p-lt8.false)) c.if-b-p-ge128.true

pub get_be-requires : goal.get_be-requires
get_be-requires c = (omega arith, omega (arith, c.requires, c.if-b-p-lt8.false))

pub returns-then-get_be-gt0 : goal.returns-then-get_be-gt0
returns-then-get_be-gt0 c =
    longer_high _ _ (λ j. (c.shared_slice_known-1.given j).fits) (omega (arith, c.requires, c.if-b-p-lt8.false)) (omega (arith, c.if-b-p-ge128.false))
    c.get_be.ensures c.if-get_be-gt0.true

pub get_be-requires-2 : goal.get_be-requires-2
get_be-requires-2 c = (omega arith, omega (arith, c.requires, c.if-b-p-lt8.false))

pub returns : goal.returns
returns c =
    longer_low _ _ (λ j. (c.shared_slice_known-1.given j).fits) (omega (arith, c.requires, c.if-b-p-lt8.false)) (omega (arith, c.if-b-p-ge128.false))
    c.get_be.ensures c.if-get_be-gt0.false c.get_be-2.ensures
