use lib.ListN.{length-replicate}
use native.Mathlib.Omega.{arith}
use Rattle.game.specs.Stores.{Lent, cells, offsets, lent}
use Rattle.game.specs.Held.{lent_in}
use Rattle.events.proofs.PlaceLaws.{slim_of, ranges_all, begins_fit, calm_absent, laid_rooms, laid_apiece, laid_wrote}
use Rattle.events.proofs.eights.put_eight.Goals as goal
use Rattle.events.proofs.eights.put_eight.Goals.{Start}

-- all that is lent
abbrev all : (c : Start) → Lent
all c =
    let a = c.args in
    lent_in a.lent.now

pub spans_of-z-requires : goal.spans_of-z-requires
spans_of-z-requires c = (c.requires.0.seats, slim_of c.args.shapes c.args.s (all (goal.at.spans_of-z-requires c).Start) _ c.requires.0)

pub is_calm-calm-requires : goal.is_calm-calm-requires
is_calm-calm-requires c =
    let a = c.args in
    (ranges_all a.shapes a.s (all (goal.at.is_calm-calm-requires c).Start) _ a.i c.requires.0 c.requires.2 c.spans_of-z.result c.spans_of-z.ensures, omega arith, c.requires.1)

pub lay_out-end-requires : goal.lay_out-end-requires
lay_out-end-requires c =
    let a = c.args in
    let h = c.spans_of-z.ensures in
    let z = c.spans_of-z.result in
    (length-replicate 16 a.at, ranges_all a.shapes a.s (all (goal.at.lay_out-end-requires c).Start) _ a.i c.requires.0 c.requires.2 z h, h.short, c.requires.1, c.requires.0.frames, omega (arith, begins_fit a.shapes a.s (all (goal.at.lay_out-end-requires c).Start) _ a.i c.requires.0 c.requires.2 z h c.requires.3, c.well_formed), c.is_calm-calm.ensures)

pub put_parts-requires : goal.put_parts-requires
put_parts-requires c =
    let a = c.args in
    let h = c.spans_of-z.ensures in
    let z = c.spans_of-z.result in
    let d = c.lay_out-end.ensures in (
      c.requires.0,
      c.requires.1,
      c.requires.2,
      laid_apiece a.shapes a.s (all (goal.at.put_parts-requires c).Start) _ a.i c.requires.0 c.requires.2 z h d,
      laid_rooms a.shapes a.s (all (goal.at.put_parts-requires c).Start) _ a.i c.requires.0 c.requires.2 z h d c.requires.3,
      calm_absent a.shapes a.s (all (goal.at.put_parts-requires c).Start) _ a.i c.requires.0 c.requires.2 z h
          c.is_calm-calm.result c.is_calm-calm.ensures,
    )

pub returns : goal.returns
returns c =
    let a = c.args in
    laid_wrote a.shapes a.s (all (goal.at.returns c).Start) _ a.i c.requires.0 c.requires.2 c.spans_of-z.result c.spans_of-z.ensures c.lay_out-end.ensures c.put_parts.ensures

pub overflow_add-i : goal.overflow_add-i
overflow_add-i c = omega (arith, c.requires.1, c.requires.0.frames)
