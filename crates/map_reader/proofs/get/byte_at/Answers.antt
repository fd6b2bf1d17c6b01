use mathlib.Core.Path.{sym}
use native.Mathlib.Omega.{arith}
use lib.ListN.{get_or-eq_default}
use Rattle.map_reader.proofs.get.byte_at.Goals as goal

pub returns : goal.returns
returns c = (sym (get_or-eq_default c.args.b.now 0 c.if-p-b.false), λ z. absurd (omega arith))
