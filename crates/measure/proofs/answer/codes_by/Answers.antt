use borrow.Author.Rules.{rules}
use Rattle.measure.proofs.Answers.{codes_none, codes_as}
use Rattle.measure.proofs.answer.codes_by.Goals as goal

pub returns-then-gecko-eq0 : goal.returns-then-gecko-eq0
returns-then-gecko-eq0 c = codes_none _ _ c.if-gecko-eq0.true

pub returns-then-has_codes : goal.returns-then-has_codes
returns-then-has_codes c = codes_as _ _ _ c.if-gecko-eq0.false c.has_codes.ensures c.if-has_codes.true

pub returns : goal.returns
returns c = codes_as _ _ _ c.if-gecko-eq0.false c.has_codes.ensures c.if-has_codes.false
