use mathlib.Core.Path.{sym, ◌∙◌}
use native.Mathlib.Omega.{arith}
use borrow.Author.Rules.{rules}
use Rattle.measure.proofs.Tails.{kind_bare, kind_body, kind_other}
use Rattle.measure.proofs.tail.kind_of.Goals as goal

pub returns-then-is_bare : goal.returns-then-is_bare
returns-then-is_bare c = (kind_bare _ (sym c.is_bare.ensures ∙ c.if-is_bare.true), λ q. absurd (omega (arith, q)))

pub returns-then-has_body : goal.returns-then-has_body
returns-then-has_body c = (kind_body _ (sym c.is_bare.ensures ∙ c.if-is_bare.false) _ c.has_body.ensures.0 c.if-has_body.true, λ q. c.has_body.ensures.1 c.if-has_body.true)

pub returns : goal.returns
returns c = (kind_other _ (sym c.is_bare.ensures ∙ c.if-is_bare.false) _ c.has_body.ensures.0 c.if-has_body.false, λ q. absurd (omega (arith, q)))
