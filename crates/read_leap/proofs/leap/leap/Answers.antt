use mathlib.Core.Path.{sym}
use Prim.Native.Nat.{◌+◌}
use native.Mathlib.Omega.{arith}
use lib.Dec.{ltb}
use lib.Seq.{length-take-le}
use Rattle.read_leap.proofs.Leaps.{seen_is}
use Rattle.read_leap.proofs.leap.leap.Goals as goal

pub put_ids-requires : goal.put_ids-requires
put_ids-requires c = let h = c.requires in (h.0, omega (arith, h.1), h.5)

pub slice_bounds-put_stepped-end : goal.slice_bounds-put_stepped-end
slice_bounds-put_stepped-end c = let p = c.requires.8 in sym (length-take-le _ _ (omega (arith, p.end, p.item, p.fod, p.whispy, p.stadium, p.inside)))

pub put_stepped-requires : goal.put_stepped-requires
put_stepped-requires c = let h = c.requires in (omega (arith, h.0, h.1), h.3, h.6)

pub slice_bounds-put_ends-count : goal.slice_bounds-put_ends-count
slice_bounds-put_ends-count c = let p = c.requires.8 in omega (arith, p.end, p.item, p.fod, p.whispy, p.stadium, p.inside)

pub slice_bounds-put_ends-start : goal.slice_bounds-put_ends-start
slice_bounds-put_ends-start c = let p = c.requires.8 in omega (arith, p.end, p.item, p.fod, p.whispy, p.stadium, p.inside)

pub slice_bounds-put_ends-end : goal.slice_bounds-put_ends-end
slice_bounds-put_ends-end c = let p = c.requires.8 in omega (arith, p.end, p.item, p.fod, p.whispy, p.stadium, p.inside)

pub put_ends-next_end-requires : goal.put_ends-next_end-requires
put_ends-next_end-requires c = let h = c.requires in (omega (arith, h.0), h.2, h.4, h.7)

pub put_offsets-requires : goal.put_offsets-requires
put_offsets-requires c = c.requires.5

pub put_offsets-requires-2 : goal.put_offsets-requires-2
put_offsets-requires-2 c = c.requires.5

pub put_offsets-requires-3 : goal.put_offsets-requires-3
put_offsets-requires-3 c =
    c.requires.5

pub put_offsets-requires-4 : goal.put_offsets-requires-4
put_offsets-requires-4 c =
    c.requires.5

pub overflow_mul-l : goal.overflow_mul-l
overflow_mul-l c =
    omega (arith, c.requires.0, c.well_formed)

pub overflow_add-l : goal.overflow_add-l
overflow_add-l c =
    omega (arith, c.requires.0, c.requires.1, c.well_formed)

pub overflow_add-l-2 : goal.overflow_add-l-2
overflow_add-l-2 c =
    omega (arith, c.requires.0, c.requires.1, c.well_formed)

pub get_be-id-requires : goal.get_be-id-requires
get_be-id-requires c =
    (omega arith, omega (arith, c.requires.0, c.requires.1))

pub overflow_add-result : goal.overflow_add-result
overflow_add-result c =
    omega (arith, c.requires.5)

pub overflow_add-result-2 : goal.overflow_add-result-2
overflow_add-result-2 c =
    omega (arith, c.requires.6, c.well_formed)

pub shape_of-ids : goal.shape_of-ids
shape_of-ids c =
    c.put_ids.auto.ids

pub shape_of-starts : goal.shape_of-starts
shape_of-starts c = c.put_stepped.auto.cells

pub shape_of-ends : goal.shape_of-ends
shape_of-ends c = c.put_ends-next_end.auto.ends

pub shape_of-item_offsets : goal.shape_of-item_offsets
shape_of-item_offsets c = c.put_offsets.auto.offsets

pub shape_of-fod_offsets : goal.shape_of-fod_offsets
shape_of-fod_offsets c = c.put_offsets-2.auto.offsets

pub shape_of-whispy_offsets : goal.shape_of-whispy_offsets
shape_of-whispy_offsets c = c.put_offsets-3.auto.offsets

pub shape_of-stadium_offsets : goal.shape_of-stadium_offsets
shape_of-stadium_offsets c = c.put_offsets-4.auto.offsets

pub returns : goal.returns
returns c =
    let a = c.args in (
      seen_is _ _ _ (ltb a.l.end (a.l.at + a.l.step)) a.s _ _ c.get_be-id.ensures c.put_ends-next_end.ensures.1,
      c.put_ids.ensures,
      c.put_stepped.ensures,
      c.put_ends-next_end.ensures.0,
      c.put_offsets.ensures,
      c.put_offsets-2.ensures,
      c.put_offsets-3.ensures,
      c.put_offsets-4.ensures,
    )
