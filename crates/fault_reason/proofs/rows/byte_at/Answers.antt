use mathlib.Core.Path.{sym}
use native.Mathlib.Omega.{arith}
use lib.ListN.{get_or-eq_default}
use borrow.Author.Rules.{rules}
use Rattle.fault_reason.proofs.rows.byte_at.Goals as goal

pub returns : goal.returns
returns c = sym (get_or-eq_default c.args.p.now 0 (omega arith))
