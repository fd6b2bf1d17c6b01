use Prim.Native.Nat.{◌-◌, ◌/◌}
use native.Mathlib.Omega.{arith}
use borrow.Author.Tests.{leb-true}
use Rattle.format.proofs.Versions.{no_way}
use Rattle.read_scan.proofs.alike.eight_fit.Goals as goal

pub returns-then-step-eq0 : goal.returns-then-step-eq0
returns-then-step-eq0 c = no_way

pub returns-then-room-lt7 : goal.returns-then-room-lt7
returns-then-room-lt7 c = no_way

pub returns : goal.returns
returns c = λ e. let a = c.args in let l = leb-true a.step ((a.room - 7) / 8) e in (omega arith, omega arith)
