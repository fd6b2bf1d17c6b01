use mathlib.Core.Path.{refl, sym, ap, ◌∙◌}
use Rattle.head.specs.Numbers.{step_numbers}
use Rattle.head.proofs.Steps.{refused_step}
use Rattle.de.proofs.step_at.Goals as goal

pub returns-then-h-ne0 : goal.returns-then-h-ne0
returns-then-h-ne0 c =
    let h = c.parse_head-h.ensures in
    ap step_numbers (refused_step _ _ _ _ h.refusal_is h.offset_is c.if-h-ne0.true)

pub in_data-requires : goal.in_data-requires
in_data-requires c =
    let p = c.parse_head-h in
    p.ensures.opened (sym p.ensures.refusal_is ∙ c.if-h-ne0.false) _ c.near-n.ensures

pub parse_head-h-requires : goal.parse_head-h-requires
parse_head-h-requires c = record { empty = refl }

pub returns : goal.returns
returns c = ap step_numbers c.in_data.ensures.0
