use native.Mathlib.Omega.{arith}
use borrow.Author.Rules.{rules}
use Rattle.measure.proofs.Tails.{places_body, places_none}
use Rattle.measure.proofs.tail.places.Goals as goal

pub overflow_sub-result-then-tail-eq1 : goal.overflow_sub-result-then-tail-eq1
overflow_sub-result-then-tail-eq1 c = omega (arith, c.tail_kind-tail.ensures.1 c.if-tail-eq1.true)

pub returns-then-tail-eq1 : goal.returns-then-tail-eq1
returns-then-tail-eq1 c = let a = c.args in places_body a.file.now a.first a.stop a.block_len _ c.tail_kind-tail.ensures.0 c.if-tail-eq1.true

pub returns : goal.returns
returns c = let a = c.args in places_none a.file.now a.first a.stop a.block_len _ c.tail_kind-tail.ensures.0 c.if-tail-eq1.false
