use mathlib.Core.Path.{ap}
use Prim.Native.Nat.{ℕ}
use native.Mathlib.Omega.{arith}
use lib.Dec.{leb}
use Rattle.newer_scan.proofs.Tries.{eight, size_at_lem}
use borrow.Author.Rules.{rules}
use Rattle.newer_scan.proofs.event.is_whole.Goals as goal

pub bounds-sizes-index : goal.bounds-sizes-index
bounds-sizes-index c = let a = c.args in omega (arith, eight a.v a.sizes.now c.requires, c.index.ensures.1)

pub returns : goal.returns
returns c =
    let a = c.args in
    let i = c.index in
    ap (λ (k : ℕ). leb k a.span) (size_at_lem a.v a.sizes.now c.requires a.family i.result i.ensures.0)
