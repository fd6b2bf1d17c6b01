use mathlib.Core.Path.{sym, ◌∙◌}
use Prim.Native.Nat.{◌+◌, ◌≤◌, ◌<◌}
use native.Mathlib.Omega.{arith}
use lib.ListN.{length-set}
use Rattle.game.specs.Held.{offsets_in}
use Rattle.places.proofs.Laws.{begins_most, laying_start, laying_step, laying_done}
use Rattle.places.proofs.table.lay_out.Goals as goal
use Rattle.places.proofs.table.lay_out.Goals.{After-middle_len-rows}

pub loop-t-init : goal.loop-t-init
loop-t-init c = laying_start c.requires.0

pub middle_len-rows-requires : goal.middle_len-rows-requires
middle_len-rows-requires c =
    let t : c.loop-t.t < 8 = omega arith in
    (c.requires.1, c.requires.2, omega (arith, c.requires.3, t), λ e. (c.requires.6 e).none _ (omega arith) (omega (arith, t)))

-- where a turn's frame ends, and that this is no more than where the last one does
most : (c : After-middle_len-rows)
    → let a = c.args in let l = c.loop-t in l.p + (a.z.ahead + c.middle_len-rows.result + a.z.behind) ≤ 18446744073709551615
most c =
    let a = c.args in
    let l = c.loop-t in
    let o = offsets_in a.offsets.now in
    omega (arith, begins_most a.z o a.i a.at l.t (omega arith), c.requires.5, l.invariant.place, c.middle_len-rows.ensures)

pub loop-t-preserved : goal.loop-t-preserved
loop-t-preserved c = laying_step c.middle_len-rows.result c.loop-t.invariant (omega arith) c.middle_len-rows.ensures

pub shape_of-places : goal.shape_of-places
shape_of-places c = c.loop-t.invariant.long ∙ sym c.requires.0

pub returns : goal.returns
returns c = laying_done c.loop-t.invariant (omega arith)

pub overflow_add-i : goal.overflow_add-i
overflow_add-i c = omega (arith, c.requires.3, c.requires.4)

pub offset_bounds-places-t : goal.offset_bounds-places-t
offset_bounds-places-t c = omega arith

pub bounds-places-t : goal.bounds-places-t
bounds-places-t c = omega (arith, c.loop-t.invariant.long)

pub overflow_add-p : goal.overflow_add-p
overflow_add-p c = omega (arith, most (goal.at.overflow_add-p c).After-middle_len-rows)

pub overflow_add-p-in-loop-t : goal.overflow_add-p-in-loop-t
overflow_add-p-in-loop-t c = omega (arith, most (goal.at.overflow_add-p-in-loop-t c).After-middle_len-rows)

pub overflow_add-places : goal.overflow_add-places
overflow_add-places c = omega arith

pub offset_bounds-places-t-in-loop-t : goal.offset_bounds-places-t-in-loop-t
offset_bounds-places-t-in-loop-t c = omega arith

pub bounds-places-t-in-loop-t : goal.bounds-places-t-in-loop-t
bounds-places-t-in-loop-t c = let l = c.loop-t in omega (arith, l.invariant.long, length-set l.places l.t l.p)

pub overflow_add-p-in-loop-t-2 : goal.overflow_add-p-in-loop-t-2
overflow_add-p-in-loop-t-2 c = omega (arith, most (goal.at.overflow_add-p-in-loop-t-2 c).After-middle_len-rows)
