use Prim.Native.Nat.{◌+◌}
use borrow.Author.Rules.{rules}
use Rattle.newer_fill.proofs.fill.spans_of.Reads as reads
use Rattle.newer_fill.proofs.fill.spans_of.Lts as lts
use Rattle.layout.proofs.listing.size.Reads as size-reads
use Rattle.newer_fill.proofs.fill.spans_of.Goals as goal

pub returns : goal.returns
returns c =
    λ i. record {
      pre = 7 + c.size.ensures.0 i;
      post = 7 + c.size-2.ensures.0 i;
      start = 5 + c.size-3.ensures.0 i;
      item = 5 + c.size-4.ensures.0 i;
      end = 5 + c.size-5.ensures.0 i;
      fod = 5 + c.size-6.ensures.0 i;
      whispy = 5 + c.size-7.ensures.0 i;
      stadium = 5 + c.size-8.ensures.0 i;
    }
