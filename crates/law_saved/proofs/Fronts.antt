-- The fronts of stores into which something was read are what was read.
-- Assumes nothing.
use Prim.Native.Nat.{ℕ, ◌+◌}
use mathlib.Core.Path.{◌≡◌, ap, ◌∙◌}
use mathlib.Core.Bool.{false}
use mathlib.Core.List.{List}
use native.Mathlib.Omega.{arith}
use borrow.Author.Tests.{ltb-false}
use lib.ListN.{length, take, drop}
use lib.Seq.{take-append_seam}
use Rattle.wire.proofs.Laws.{splice_is}
use Rattle.format.proofs.Tests.{one_passed}
use Rattle.measure.specs.Game.{Kept, lengths_of}
use Rattle.measure.specs.Read.{too_short, kept_short, laid_over, kept_over}
use Rattle.law_saved.specs.Again.{fronts}

front : (given read : List ℕ) → too_short given read ≡ false → take (length read) (laid_over given read) ≡ read
front given read e =
    let h = ltb-false (length given) (length read) e in
    ap (take (length read)) (splice_is given 0 read (omega (arith, h))) ∙ take-append_seam read (drop (0 + length read) given)

pub fronts_read : (given read : Kept) → kept_short given read ≡ false → fronts (lengths_of read) (kept_over given read) ≡ read
unfolding fronts kept_short kept_over
fronts_read given read e =
    let (ids, e) = one_passed _ _ e in
    let (starts, e) = one_passed _ _ e in
    let (pres, e) = one_passed _ _ e in
    let (posts, e) = one_passed _ _ e in
    let (ends, e) = one_passed _ _ e in
    let (items, e) = one_passed _ _ e in
    let (fods, e) = one_passed _ _ e in
    let (whispys, e) = one_passed _ _ e in
    let (stadiums, e) = one_passed _ _ e in
    let (item, e) = one_passed _ _ e in
    let (fod, e) = one_passed _ _ e in
    let (whispy, e) = one_passed _ _ e in
    let (stadium, e) = one_passed _ _ e in
    let (presence, e) = one_passed _ _ e in
    let (codes, e) = one_passed _ _ e in
    λ i. record {
      lent = record {
        cells = record {
          ids = front given.lent.cells.ids read.lent.cells.ids ids i;
          starts = front given.lent.cells.starts read.lent.cells.starts starts i;
          pres = front given.lent.cells.pres read.lent.cells.pres pres i;
          posts = front given.lent.cells.posts read.lent.cells.posts posts i;
          ends = front given.lent.cells.ends read.lent.cells.ends ends i;
          items = front given.lent.cells.items read.lent.cells.items items i;
          fods = front given.lent.cells.fods read.lent.cells.fods fods i;
          whispys = front given.lent.cells.whispys read.lent.cells.whispys whispys i;
          stadiums = front given.lent.cells.stadiums read.lent.cells.stadiums stadiums i;
        };
        offsets = record {
          items = front given.lent.offsets.items read.lent.offsets.items item i;
          fods = front given.lent.offsets.fods read.lent.offsets.fods fod i;
          whispys = front given.lent.offsets.whispys read.lent.offsets.whispys whispy i;
          stadiums = front given.lent.offsets.stadiums read.lent.offsets.stadiums stadium i;
        };
        presence = front given.lent.presence read.lent.presence presence i;
      };
      codes = front given.codes read.codes codes i;
    }
