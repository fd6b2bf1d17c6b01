use native.Mathlib.Omega.{arith}
use mathlib.Core.Path.{◌≡◌, refl}
use mathlib.Core.Bool.{Bool, true, false, cond}
use mir.Val.{bool_byte}
use Rattle.codes.specs.Blocks.{block_count, last_flag}
use Rattle.codes.proofs.blocks.last_flag.Goals as goal

pub overflow_add-result : goal.overflow_add-result
unfolding block_count
overflow_add-result c = omega arith

one_or_zero : (b : Bool) → bool_byte b ≡ cond b 1 0
one_or_zero true = refl
one_or_zero false = refl

pub returns : goal.returns
unfolding last_flag
returns c = rw c.block_count.ensures.0 (one_or_zero _)
