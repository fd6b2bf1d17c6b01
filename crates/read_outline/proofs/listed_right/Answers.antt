use native.Mathlib.Omega.{arith}
use Rattle.read_outline.proofs.Laws.{listed_early, listed_not, listed_as}
use Rattle.read_outline.proofs.listed_right.Goals as goal

pub overflow_cast-span : goal.overflow_cast-span
overflow_cast-span c = omega (arith, c.shared_slice_known-then-has_codes-1.given 61)

pub returns-then-span-eq0 : goal.returns-then-span-eq0
returns-then-span-eq0 c = listed_not _ _ _ _ _ c.has_codes.ensures c.if-has_codes.true c.if-span-eq0.true

pub returns-then-has_codes : goal.returns-then-has_codes
returns-then-has_codes c = listed_as _ _ _ _ _ c.has_codes.ensures c.if-has_codes.true c.if-span-eq0.false

pub returns : goal.returns
returns c = listed_early _ _ _ _ _ c.has_codes.ensures c.if-has_codes.false
