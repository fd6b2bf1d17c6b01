use borrow.Author.Rules.{rules}
use native.Mathlib.Omega.{arith}
use Rattle.measure.specs.Inner.{store_by}
use Rattle.measure.proofs.LengthLaws.{store_small}
use Rattle.measure.proofs.lengths.store.Goals as goal

pub overflow_mul-result : goal.overflow_mul-result
overflow_mul-result c =
    let a = c.args in
    omega (arith, (store_small a.f a.family _ _ _ c.requires c.columns.ensures.1 c.rows.ensures c.blocks-2.ensures.1).0)

pub overflow_mul-result-2 : goal.overflow_mul-result-2
overflow_mul-result-2 c =
    let a = c.args in
    omega (arith, (store_small a.f a.family _ _ _ c.requires c.columns.ensures.1 c.rows.ensures c.blocks-2.ensures.1).1)

pub returns : goal.returns
unfolding store_by
returns c = rw (c.blocks-2.ensures.0, c.columns.ensures.0, c.rows.ensures)
