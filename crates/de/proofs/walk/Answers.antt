use mathlib.Core.Path.{refl, sym, ap, ◌∙◌}
use Rattle.de.specs.Numbers.{walk_numbers}
use Rattle.de.proofs.Runs.{refused_walk, walk_is}
use Rattle.de.proofs.walk.Goals as goal

pub returns-then-h-ne0 : goal.returns-then-h-ne0
returns-then-h-ne0 c =
    let h = c.parse_head-h.ensures in
    ap walk_numbers (refused_walk _ _ _ h.refusal_is h.offset_is c.if-h-ne0.true)

pub walk_events-done-requires : goal.walk_events-done-requires
walk_events-done-requires c =
    let p = c.parse_head-h in
    p.ensures.opened (sym p.ensures.refusal_is ∙ c.if-h-ne0.false) _ c.near-n.ensures

pub returns : goal.returns
returns c =
    let h = c.parse_head-h.ensures in
    let r = h.opened (sym h.refusal_is ∙ c.if-h-ne0.false) _ c.near-n.ensures in
    ap walk_numbers (c.finish.ensures ∙ walk_is _ _ _ c.walk_events-done.ensures.0 r.stop_is)

pub parse_head-h-requires : goal.parse_head-h-requires
parse_head-h-requires c = record { empty = refl }

pub finish-requires : goal.finish-requires
finish-requires c = c.walk_events-done.ensures.1
