use mathlib.Core.Path.{refl}
use Prim.Native.Nat.{◌+◌, ◌*◌}
use native.Mathlib.Omega.{arith}
use Rattle.map.specs.Rows.{cell_of}
use Rattle.map.proofs.put.cell.Goals as goal

pub overflow_cast-result : goal.overflow_cast-result
overflow_cast-result c = record { fits = omega (arith, c.shared_slice_known-1.given (5 * c.args.k + c.args.j)) }

pub returns : goal.returns
unfolding cell_of
returns c = (refl, omega (arith, c.shared_slice_known-1.given (5 * c.args.k + c.args.j)))
