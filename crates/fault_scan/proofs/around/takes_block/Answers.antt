use Rattle.format.proofs.Versions.{no_way}
use Rattle.fault_scan.proofs.Laws.{takes_early, takes_unlisted, takes_wrong, takes_good}
use borrow.Author.Rules.{rules}
use Rattle.fault_scan.proofs.around.takes_block.Goals as goal

pub is_listed-requires : goal.is_listed-requires
is_listed-requires c = let g = c.is_good.ensures.1 c.if-is_good.true in let s = c.requires in (g.0, s.0, s.1, g.1)

pub returns-then-is_good : goal.returns-then-is_good
returns-then-is_good c =
    (takes_good _ _ _ _ c.has_codes.result c.has_codes.ensures c.if-has_codes.true c.span_of.result c.span_of.ensures.0 c.if-span_of-ne0.true c.is_good.result c.is_good.ensures.0 c.if-is_good.true _ c.is_listed.ensures, λ q. (c.is_good.ensures.1 c.if-is_good.true).0)

pub returns-else-is_good : goal.returns-else-is_good
returns-else-is_good c =
    (takes_wrong _ _ _ _ c.has_codes.result c.has_codes.ensures c.if-has_codes.true c.span_of.result c.span_of.ensures.0 c.if-span_of-ne0.true c.is_good.result c.is_good.ensures.0 c.if-is_good.false, λ q. no_way q)

pub returns-else-span_of-ne0 : goal.returns-else-span_of-ne0
returns-else-span_of-ne0 c = (takes_unlisted _ _ _ _ c.has_codes.result c.has_codes.ensures c.if-has_codes.true c.span_of.result c.span_of.ensures.0 c.if-span_of-ne0.false, λ q. no_way q)

pub returns-else-has_codes : goal.returns-else-has_codes
returns-else-has_codes c = (takes_early _ _ _ _ c.has_codes.result c.has_codes.ensures c.if-has_codes.false, λ q. no_way q)
