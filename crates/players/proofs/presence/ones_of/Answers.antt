-- `players::presence::ones_of` meets its contract: a byte has at most eight bits.
use native.Mathlib.Omega.{arith}
use lib.Count.{ones-le}
use Rattle.players.proofs.presence.ones_of.Goals as goal

pub overflow_cast-result : goal.overflow_cast-result
overflow_cast-result c = omega (arith, ones-le 8 c.args.b c.ranges.b.fits)
