use borrow.Author.Rules.{rules}
use mathlib.Core.List.{[]}
use Rattle.measure.proofs.LengthLaws.{four, listing_as}
use Rattle.measure.proofs.lengths.ports_of.Goals as goal

pub returns : goal.returns
returns c =
    listing_as (four c.args.slots c.args.bytes)
    (c.with_port.ensures.1 _ (c.with_port-c.ensures.1 _ (c.with_port-b.ensures.1 _ (c.with_port-a.ensures.1 [] c.no_ports-none.ensures))))
