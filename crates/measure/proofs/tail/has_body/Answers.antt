use native.Mathlib.Omega.{arith}
use borrow.Author.Rules.{rules}
use Rattle.format.proofs.Versions.{no_way}
use Rattle.measure.proofs.Tails.{body_short, body_long, body_other, body_open, body_as}
use Rattle.measure.proofs.tail.has_body.Goals as goal

pub returns-then-n-lt13 : goal.returns-then-n-lt13
returns-then-n-lt13 c = (body_short _ c.if-n-lt13.true, λ q. no_way q)

pub returns-then-n-gt65548 : goal.returns-then-n-gt65548
returns-then-n-gt65548 c = (body_long _ (omega arith) c.if-n-gt65548.true, λ q. no_way q)

pub returns-then-tail-n-eq125 : goal.returns-then-tail-n-eq125
returns-then-tail-n-eq125 c = (body_as _ (omega arith) (omega arith) _ c.has_key.ensures c.if-has_key.true c.if-tail-n-eq125.true, λ q. omega arith)

pub returns-else-tail-n-eq125 : goal.returns-else-tail-n-eq125
returns-else-tail-n-eq125 c = (body_open _ (omega arith) (omega arith) _ c.has_key.ensures c.if-has_key.true c.if-tail-n-eq125.false, λ q. no_way q)

pub returns-else-has_key : goal.returns-else-has_key
returns-else-has_key c = (body_other _ (omega arith) (omega arith) _ c.has_key.ensures c.if-has_key.false, λ q. no_way q)
