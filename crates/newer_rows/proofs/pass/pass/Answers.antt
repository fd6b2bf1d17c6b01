use mathlib.Core.Path.{◌∙◌}
use Prim.Native.Nat.{◌-◌}
use native.Mathlib.Omega.{arith}
use Rattle.read_event.specs.Known.{plan_in}
use Rattle.read_event.specs.Parts.{rows}
use Rattle.read_rows.proofs.Passing.{offsets_done}
use Rattle.newer_rows.proofs.Passing.{Filling, filling_first, filling_rooms, filling_whole, filling_span, filling_covers, filling_on, filling_done}
use Rattle.newer_rows.proofs.pass.pass.Reads as reads
use Rattle.newer_rows.proofs.pass.pass.Lts as lts
use Rattle.newer_rows.proofs.pass.next_row.Reads as next-row-reads
use Rattle.newer_rows.proofs.pass.nothing.Reads as nothing-reads
use Rattle.read_event.proofs.marks.mark_offsets.Reads as mark-offsets-reads
use Rattle.read_scan.proofs.event.span_of.Reads as span-of-reads
use Rattle.read_turn.proofs.turn.turn.Reads as turn-reads
use Rattle.newer_rows.proofs.pass.pass.Goals as goal

pub next_row-at-requires : goal.next_row-at-requires
next_row-at-requires c = let h = c.requires in (h.2, record { raw = h.3.known.raw; covers = h.3.known.covers })

pub loop-at-init : goal.loop-at-init
loop-at-init c = let h = c.requires in filling_first _ _ _ _ _ _ _ _ h.1 h.3 c.nothing-s.ensures c.next_row-at.ensures

pub bounds-file-at : goal.bounds-file-at
bounds-file-at c = let w = filling_whole _ _ _ _ _ _ _ _ _ _ c.loop-at.invariant c.loop-at-test.true in omega (arith, w.long, w.inside)

pub span_of-requires : goal.span_of-requires
span_of-requires c = c.requires.2

pub overflow_add-next : goal.overflow_add-next
overflow_add-next c =
    let w = filling_span _ _ _ _ _ _ _ _ _ _ c.loop-at.invariant c.loop-at-test.true c.span_of.ensures.0 in omega (arith, w.1, w.2, c.well_formed)

pub turn-s-requires : goal.turn-s-requires
turn-s-requires c =
    let l = c.loop-at.invariant in
    let h = c.requires in
    (h.0, filling_whole _ _ _ _ _ _ _ _ _ _ l c.loop-at-test.true, filling_rooms _ _ _ _ _ _ _ _ _ _ l h.4, h.5)

pub next_row-at-requires-in-loop-at : goal.next_row-at-requires-in-loop-at
next_row-at-requires-in-loop-at c =
    let h = c.requires in
    (h.2, filling_covers _ _ _ _ _ _ _ _ _ _ c.loop-at.invariant c.loop-at-test.true c.span_of.ensures.0)

pub loop-at-smaller : goal.loop-at-smaller
loop-at-smaller c =
    let t = c.loop-at-test.true in
    let w = filling_span _ _ _ _ _ _ _ _ _ _ c.loop-at.invariant t c.span_of.ensures.0 in omega (arith, w.0, c.next_row-at-in-loop-at.ensures.forward, t)

pub loop-at-preserved : goal.loop-at-preserved
loop-at-preserved c =
    let k = c.turn-s.auto in
    let h = c.requires in
    filling_on _ _ _ _ _ _ _ _ _ _ c.loop-at.invariant c.loop-at-test.true h.0 h.1 c.span_of.ensures.0
    (record {
      ids = k.ids;
      starts = k.starts;
      ends = k.ends;
      items = k.items;
      fods = k.fods;
      whispys = k.whispys;
      stadiums = k.stadiums;
      item_offsets = k.item_offsets;
      fod_offsets = k.fod_offsets;
      whispy_offsets = k.whispy_offsets;
      stadium_offsets = k.stadium_offsets;
    })
    c.turn-s.ensures c.next_row-at-in-loop-at.ensures

pub shape_of-ids : goal.shape_of-ids
shape_of-ids c = c.loop-at.invariant.lengths.ids

pub shape_of-starts : goal.shape_of-starts
shape_of-starts c = c.loop-at.invariant.lengths.starts

pub shape_of-ends : goal.shape_of-ends
shape_of-ends c = c.loop-at.invariant.lengths.ends

pub shape_of-items : goal.shape_of-items
shape_of-items c = c.loop-at.invariant.lengths.items

pub shape_of-fods : goal.shape_of-fods
shape_of-fods c = c.loop-at.invariant.lengths.fods

pub shape_of-whispys : goal.shape_of-whispys
shape_of-whispys c = c.loop-at.invariant.lengths.whispys

pub shape_of-stadiums : goal.shape_of-stadiums
shape_of-stadiums c = c.loop-at.invariant.lengths.stadiums

pub shape_of-item_offsets : goal.shape_of-item_offsets
shape_of-item_offsets c = c.mark_offsets.auto.item_offsets ∙ c.loop-at.invariant.lengths.item_offsets

pub shape_of-fod_offsets : goal.shape_of-fod_offsets
shape_of-fod_offsets c = c.mark_offsets.auto.fod_offsets ∙ c.loop-at.invariant.lengths.fod_offsets

pub shape_of-whispy_offsets : goal.shape_of-whispy_offsets
shape_of-whispy_offsets c = c.mark_offsets.auto.whispy_offsets ∙ c.loop-at.invariant.lengths.whispy_offsets

pub shape_of-stadium_offsets : goal.shape_of-stadium_offsets
shape_of-stadium_offsets c = c.mark_offsets.auto.stadium_offsets ∙ c.loop-at.invariant.lengths.stadium_offsets

pub returns : goal.returns
returns c =
    λ es x. filling_done _ _ _ _ _ _ _ _ _ _ c.loop-at.invariant (omega (arith, c.loop-at-test.false)) _ (offsets_done _ _ _ _ _ _ _ c.mark_offsets.ensures) es x
