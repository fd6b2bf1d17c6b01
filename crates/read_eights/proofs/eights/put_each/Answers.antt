use Prim.Native.Nat.{◌-◌, ◌≤◌}
use native.Mathlib.Omega.{arith}
use Rattle.read_event.specs.Parts.{seats, seating}
use Rattle.read_eights.specs.Inner.{across_at}
use Rattle.read_eights.proofs.Places.{Put, put_rooms, across_start, across_next, across_done}
use Rattle.read_eights.proofs.eights.put_each.Reads as reads
use Rattle.read_eights.proofs.eights.put_each.Lts as lts
use Rattle.read_eights.proofs.eights.put_one.Reads as put-one-reads
use Rattle.read_eights.proofs.eights.put_each.Goals as goal

pub loop-t-init : goal.loop-t-init
loop-t-init c = (omega arith, across_start _ _ _ _ _ _)

pub overflow_add-i : goal.overflow_add-i
overflow_add-i c = omega (arith, c.requires.0, c.well_formed, c.loop-t-test.true)

pub overflow_add-n : goal.overflow_add-n
overflow_add-n c = omega (arith, c.requires.4, c.requires.3.modest, c.loop-t-test.true)

pub put_one-requires : goal.put_one-requires
put_one-requires c = let h = c.requires in (omega (arith, h.0, c.loop-t-test.true), h.1, h.2, put_rooms h.3 c.loop-t.invariant.1)

pub overflow_add-t : goal.overflow_add-t
overflow_add-t c = omega (arith, c.loop-t-test.true)

pub loop-t-smaller : goal.loop-t-smaller
loop-t-smaller c = omega (arith, c.loop-t-test.true)

pub loop-t-preserved : goal.loop-t-preserved
loop-t-preserved c =
    let k = c.put_one.auto in
    (omega (arith, c.loop-t-test.true), across_next _ _ _ k.pres k.posts k.presence _ _ _ c.loop-t.invariant.1 c.put_one.ensures)

pub shape_of-pres : goal.shape_of-pres
shape_of-pres c = c.loop-t.invariant.1.pres

pub shape_of-posts : goal.shape_of-posts
shape_of-posts c = c.loop-t.invariant.1.posts

pub shape_of-presence : goal.shape_of-presence
shape_of-presence c = c.loop-t.invariant.1.presence

pub returns : goal.returns
returns c = let l = c.loop-t.invariant in across_done _ _ _ _ _ _ _ l.1 l.0 c.loop-t-test.false
