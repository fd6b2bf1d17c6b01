use borrow.Author.Rules.{rules}
use native.Mathlib.Omega.{arith}
use Rattle.check_file.proofs.Tails.{tail_bare, tail_body, tail_odd}
use Rattle.check_file.proofs.tail.is_tail.Goals as goal

pub returns-then-kind-eq0 : goal.returns-then-kind-eq0
returns-then-kind-eq0 c = let a = c.args in let k = c.tail_kind-kind in tail_bare a.file.now a.stop k.result k.ensures.0 c.if-kind-eq0.true

pub overflow_sub-end : goal.overflow_sub-end
overflow_sub-end c = omega (arith, c.tail_kind-kind.ensures.1 c.if-kind-eq1.true)

pub slice_bounds-is_body-count : goal.slice_bounds-is_body-count
slice_bounds-is_body-count c = omega (arith, c.tail_kind-kind.ensures.1 c.if-kind-eq1.true)

pub slice_bounds-is_body-start : goal.slice_bounds-is_body-start
slice_bounds-is_body-start c = omega (arith, c.tail_kind-kind.ensures.1 c.if-kind-eq1.true)

pub returns-then-kind-eq1 : goal.returns-then-kind-eq1
returns-then-kind-eq1 c =
    let a = c.args in
    let k = c.tail_kind-kind in
    tail_body a.file.now a.stop k.result k.ensures.0 c.if-kind-eq1.true (k.ensures.1 c.if-kind-eq1.true) c.is_body.result c.is_body.ensures

pub returns : goal.returns
returns c = let a = c.args in let k = c.tail_kind-kind in tail_odd a.file.now a.stop k.result k.ensures.0 c.if-kind-eq0.false c.if-kind-eq1.false
