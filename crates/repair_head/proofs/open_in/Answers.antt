use mathlib.Core.Path.{sym, ◌∙◌}
use native.Mathlib.Omega.{arith}
use lib.Seq.{length-take-le}
use Rattle.repair_head.proofs.Laws.{top_short, top_long}
use borrow.Author.Rules.{rules}
use Rattle.repair_head.proofs.open_in.Reads as reads
use Rattle.repair_head.proofs.open_in.Lts as lts
use Rattle.repair_head.proofs.parse_zeroed.Reads as parse-zeroed-reads
use Rattle.repair_head.proofs.open_in.Goals as goal

-- src/lib.rt:42:30
pub slice_bounds-parse_zeroed-end-then-file-lt271 : goal.slice_bounds-parse_zeroed-end-then-file-lt271
slice_bounds-parse_zeroed-end-then-file-lt271 c = sym (length-take-le _ _ (omega (arith, c.requires.0)))

-- src/lib.rt:42:13
pub parse_zeroed-h-requires : goal.parse_zeroed-h-requires
parse_zeroed-h-requires c = record { fits = length-take-le _ _ (omega (arith, c.requires.0)); long = c.requires.1; blank = c.requires.2 }

-- src/lib.rt:43:9
pub returns-then-file-lt271 : goal.returns-then-file-lt271
returns-then-file-lt271 c = top_short _ _ c.parse_zeroed-h.result c.parse_zeroed-h.ensures

-- src/lib.rt:48:32
pub slice_bounds-parse_zeroed-end-2 : goal.slice_bounds-parse_zeroed-end-2
slice_bounds-parse_zeroed-end-2 c = sym (length-take-le 271 c.args.file.now (omega arith))

-- src/lib.rt:48:9
pub parse_zeroed-h-requires-2 : goal.parse_zeroed-h-requires-2
parse_zeroed-h-requires-2 c =
    let e = length-take-le 271 c.args.file.now (omega arith) in
    record { fits = c.requires.0 ∙ sym e; long = omega (arith, e); blank = c.requires.2 }

-- src/lib.rt:36:1
pub returns : goal.returns
returns c = top_long _ (omega arith) (λ i. (c.shared_slice_known-1.given i).fits) _ c.parse_zeroed-h-2.result c.parse_zeroed-h-2.ensures
