use Prim.Native.Nat.{◌-◌, ◌≤◌}
use native.Mathlib.Omega.{arith}
use Rattle.read_event.specs.Parts.{seats, seating}
use Rattle.read_places.specs.Inner.{frames_at}
use Rattle.read_eights.proofs.Places.{Put, put_rooms, frames_start, frames_next, frames_done}
use Rattle.read_eights.proofs.eights.put_frames.Reads as reads
use Rattle.read_eights.proofs.eights.put_frames.Lts as lts
use Rattle.read_eights.proofs.eights.put_frame.Reads as put-frame-reads
use Rattle.read_eights.proofs.eights.put_frames.Goals as goal

pub loop-t-init : goal.loop-t-init
loop-t-init c = (omega arith, frames_start _ _ _ _ _ _)

pub overflow_add-n : goal.overflow_add-n
overflow_add-n c = omega (arith, c.requires.6, c.requires.5.modest, c.loop-t-test.true)

pub put_frame-requires : goal.put_frame-requires
put_frame-requires c =
    let h = c.requires in
    (omega (arith, h.1, c.loop-t-test.true), h.0, h.2, h.3, h.4, put_rooms h.5 c.loop-t.invariant.1)

pub overflow_add-t : goal.overflow_add-t
overflow_add-t c = omega (arith, c.loop-t-test.true)

pub loop-t-smaller : goal.loop-t-smaller
loop-t-smaller c = omega (arith, c.loop-t-test.true)

pub loop-t-preserved : goal.loop-t-preserved
loop-t-preserved c =
    let k = c.put_frame.auto in
    (omega (arith, c.loop-t-test.true), frames_next _ _ _ k.pres k.posts k.presence _ _ _ c.loop-t.invariant.1 c.put_frame.ensures)

pub shape_of-pres : goal.shape_of-pres
shape_of-pres c = c.loop-t.invariant.1.pres

pub shape_of-posts : goal.shape_of-posts
shape_of-posts c = c.loop-t.invariant.1.posts

pub shape_of-presence : goal.shape_of-presence
shape_of-presence c = c.loop-t.invariant.1.presence

pub returns : goal.returns
returns c = let l = c.loop-t.invariant in frames_done _ _ _ _ _ _ _ _ l.1 l.0 (omega (arith, c.loop-t-test.false))
