use native.Mathlib.Omega.{arith}
use Rattle.read_event.specs.Inner.{stage_after}
use Rattle.read_event.proofs.rows.put_stage.Goals as goal

pub slice_bounds-put_row-count : goal.slice_bounds-put_row-count
slice_bounds-put_row-count c = let p = c.requires.1 in omega (arith, p.fod, p.whispy, p.stadium, p.inside)

pub slice_bounds-put_row-start : goal.slice_bounds-put_row-start
slice_bounds-put_row-start c = let p = c.requires.1 in omega (arith, p.fod, p.whispy, p.stadium, p.inside)

pub slice_bounds-put_row-end : goal.slice_bounds-put_row-end
slice_bounds-put_row-end c = let p = c.requires.1 in omega (arith, p.fod, p.whispy, p.stadium, p.inside)

pub put_row-e-requires : goal.put_row-e-requires
put_row-e-requires c = let h = c.requires in (h.0, h.2.0, h.2.1)

pub slice_bounds-put_row-count-2 : goal.slice_bounds-put_row-count-2
slice_bounds-put_row-count-2 c = let p = c.requires.1 in omega (arith, p.fod, p.whispy, p.stadium, p.inside)

pub slice_bounds-put_row-start-2 : goal.slice_bounds-put_row-start-2
slice_bounds-put_row-start-2 c = let p = c.requires.1 in omega (arith, p.fod, p.whispy, p.stadium, p.inside)

pub slice_bounds-put_row-end-2 : goal.slice_bounds-put_row-end-2
slice_bounds-put_row-end-2 c = let p = c.requires.1 in omega (arith, p.fod, p.whispy, p.stadium, p.inside)

pub put_row-g-requires : goal.put_row-g-requires
put_row-g-requires c = let h = c.requires in (h.0, h.3.0, h.3.1)

pub slice_bounds-put_row-count-3 : goal.slice_bounds-put_row-count-3
slice_bounds-put_row-count-3 c = let p = c.requires.1 in omega (arith, p.fod, p.whispy, p.stadium, p.inside)

pub slice_bounds-put_row-start-3 : goal.slice_bounds-put_row-start-3
slice_bounds-put_row-start-3 c = let p = c.requires.1 in omega (arith, p.fod, p.whispy, p.stadium, p.inside)

pub slice_bounds-put_row-end-3 : goal.slice_bounds-put_row-end-3
slice_bounds-put_row-end-3 c = let p = c.requires.1 in omega (arith, p.fod, p.whispy, p.stadium, p.inside)

pub put_row-h-requires : goal.put_row-h-requires
put_row-h-requires c = let h = c.requires in (h.0, h.4.0, h.4.1)

pub returns : goal.returns
unfolding stage_after
returns c =
    let n = c.args.n in
    let a = c.put_row-e.ensures in
    let b = c.put_row-g.ensures in
    let d = c.put_row-h.ensures in
    (λ i. record { starts = n.starts; ends = n.ends; items = n.items; fods = a.1 i; whispys = b.1 i; stadiums = d.1 i }, a.0, b.0, d.0)
