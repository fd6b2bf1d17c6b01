use mathlib.Core.Path.{sym}
use Prim.Native.Nat.{◌+◌}
use native.Mathlib.Omega.{arith}
use borrow.Author.Tests.{lt-ltb}
use Rattle.append.proofs.Lengths.{short_is}
use Rattle.append.proofs.place.is_short.Goals as goal

pub returns-then-room-place : goal.returns-then-room-place
returns-then-room-place c = let a = c.args in sym (lt-ltb a.room (a.place + a.len) (omega (arith, c.if-room-place.true)))

pub returns : goal.returns
returns c = short_is _ _ _ c.if-room-place.false
