use native.Mathlib.Omega.{arith}
use Rattle.wire.proofs.Writers.{wrote_as}
use Rattle.read_event.proofs.Plans.{widths_cut}
use borrow.Author.Rules.{rules}
use Rattle.read_lists.proofs.fill.put_family.Reads as reads
use Rattle.read_lists.proofs.fill.put_family.Lts as lts
use Rattle.layout.proofs.listing.widths.Reads as widths-reads
use Rattle.wire.proofs.put_bytes.Reads as put-bytes-reads
use Rattle.read_lists.proofs.fill.put_family.Goals as goal

pub slice_bounds-put_bytes-end : goal.slice_bounds-put_bytes-end
slice_bounds-put_bytes-end c = (widths_cut _ _ _ _ _ c.widths-l.ensures).1

pub put_bytes-requires : goal.put_bytes-requires
put_bytes-requires c =
    let w = c.widths-l.ensures in
    let n = widths_cut _ _ _ _ _ w in
    record { fits = omega (arith, c.requires, n.1, w.few) }

pub returns : goal.returns
returns c =
    let w = c.widths-l.ensures in
    let n = widths_cut _ _ _ _ _ w in
    let p = c.put_bytes.ensures in
    (wrote_as w.each p, omega (arith, p.next_is, n.1, w.few))
