use native.Mathlib.Omega.{arith}
use mathlib.Core.Path.{refl}
use Rattle.format.proofs.Versions.{no_way}
use Rattle.newer_ends.proofs.Tests.{six, right_none, right_low, right_as}
use borrow.Author.Rules.{rules}
use Rattle.newer_ends.proofs.end.is_right.Goals as goal

pub bounds-file-at : goal.bounds-file-at
bounds-file-at c =
    let b = c.is_end.ensures.1 c.if-is_end.true in
    omega (arith, b.0, b.1, six c.args.v c.requires.0, c.requires.1.within)

pub returns-then-initiator-le3 : goal.returns-then-initiator-le3
returns-then-initiator-le3 c = let b = c.is_end.ensures in let t = c.if-is_end.true in (right_low _ _ _ _ _ _ b.0 t _ refl c.if-initiator-le3.true, λ q. b.1 t)

pub returns-then-is_end : goal.returns-then-is_end
returns-then-is_end c = let b = c.is_end.ensures in let t = c.if-is_end.true in (right_as _ _ _ _ _ _ b.0 t _ refl c.if-initiator-le3.false, λ q. b.1 t)

pub returns : goal.returns
returns c = (right_none _ _ _ _ _ _ c.is_end.ensures.0 c.if-is_end.false, λ q. no_way q)
