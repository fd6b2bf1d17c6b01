-- `players::presence::ones_below` meets its contract: 1 << k is 2 ^ k, and a byte has at most eight bits.
use mathlib.Core.Path.{◌≡◌, ◌∙◌}
use Prim.Native.Nat.{ℕ, ◌%◌, ◌^◌, ◌*◌, ◌<◌}
use native.Mathlib.Omega.{arith}
use native.Mathlib.Nat.{one-mul, mod-le}
use lib.Dec.{lit<}
use lib.Pow.{shl_exact, pow_pos}
use lib.Count.{ones-le}
use Rattle.players.proofs.presence.ones_below.Goals as goal

shifted : (k : ℕ) → k < 8 → 1 * 2 ^ k % 2 ^ 8 ≡ 2 ^ k
shifted k h = shl_exact 1 k 8 (lit< tt) (omega arith) ∙ one-mul (2 ^ k)

pub nonzero_rem-result : goal.nonzero_rem-result
nonzero_rem-result c = rw (shifted c.args.k c.requires) (pow_pos c.args.k)

pub overflow_cast-result : goal.overflow_cast-result
overflow_cast-result c = omega (arith, ones-le 8 (c.args.b % (1 * 2 ^ c.args.k % 256)) (omega (arith, mod-le c.args.b (1 * 2 ^ c.args.k % 256), c.ranges.b)))

pub returns : goal.returns
returns c = rw (shifted c.args.k c.requires)
