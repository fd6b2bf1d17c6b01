use native.Mathlib.Omega.{arith}
use native.Mathlib.Decide.{dec_lt}
use mathlib.Core.Path.{◌≡◌, ◌∙◌}
use mathlib.Core.Bool.{cond}
use Prim.Native.Nat.{ℕ, ◌-◌, ◌*◌}
use Rattle.std.specs.Prelude.{min}
use lib.Dec.{ltb}
use borrow.Author.Tests.{lt-ltb, le-ltb}
use Rattle.codes.specs.Blocks.{block_count, used}
use Rattle.codes.proofs.blocks.used_bytes.Goals as goal

pub overflow_mul-rest : goal.overflow_mul-rest
unfolding block_count
overflow_mul-rest c = omega arith

pub overflow_sub-rest : goal.overflow_sub-rest
unfolding block_count
overflow_sub-rest c = omega arith

-- the smaller of two
least : (x : ℕ) → min x 512 ≡ cond (ltb 512 x) 512 x
least x = elim (dec_lt 512 x) [ yes h ↦ rw (lt-ltb 512 x h) (omega arith) | no h ↦ rw (le-ltb 512 x (omega (arith, h))) (omega (arith, h)) ]

pub returns : goal.returns
unfolding used
returns c = c.min.ensures ∙ least (c.args.actual - 512 * c.args.b)
