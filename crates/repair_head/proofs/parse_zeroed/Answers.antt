use borrow.Author.Rules.{rules}
use mathlib.Core.Path.{subst}
use Rattle.head.specs.Inner.{HeadOf}
use Rattle.repair_head.proofs.parse_zeroed.Goals as goal

pub put_zeroed-requires : goal.put_zeroed-requires
put_zeroed-requires c = (c.requires.fits, c.requires.long)

pub parse_head-requires : goal.parse_head-requires
parse_head-requires c = c.requires.blank

pub returns : goal.returns
returns c = let h = c.parse_head in subst (HeadOf h.result h.new.spans) c.put_zeroed.ensures h.ensures
