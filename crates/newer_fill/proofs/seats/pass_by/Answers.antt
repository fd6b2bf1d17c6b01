use mathlib.Core.Path.{◌≡◌, refl, ◌∙◌}
use Prim.Native.Nat.{◌-◌}
use native.Mathlib.Omega.{arith}
use lib.ListN.{length}
use Rattle.read_event.specs.Parts.{seats, seating}
use Rattle.newer_fill.proofs.Passing.{Passing, passing_first, passing_rooms, passing_on, passing_done}
use Rattle.newer_fill.proofs.seats.pass_by.Reads as reads
use Rattle.newer_fill.proofs.seats.pass_by.Lts as lts
use Rattle.newer_places.proofs.scan.find_frames.Reads as find-frames-reads
use Rattle.read_eights.proofs.eights.put_batch.Reads as put-batch-reads
use Rattle.newer_fill.proofs.seats.pass_by.Goals as goal

pub loop-at-init : goal.loop-at-init
loop-at-init c = let h = c.requires in (passing_first _ _ _ _ _ _ _ _ h.2 h.5 h.4, refl)

pub find_frames-k-requires : goal.find_frames-k-requires
find_frames-k-requires c =
    let l = c.loop-at.invariant.0 in
    let h = c.requires in
    (l.long, c.loop-at-test.true, l.few, h.1, l.stood, l.whole, h.3.modest)

pub put_batch-requires : goal.put_batch-requires
put_batch-requires c =
    let h = c.requires in
    let b = c.find_frames-k.ensures in
    let l = c.loop-at.invariant.0 in
    (b.few, b.many, omega (arith, l.long, c.find_frames-k.auto.places), b.whole, h.0, passing_rooms _ _ _ _ _ _ l h.3, b.bound)

pub loop-at-smaller : goal.loop-at-smaller
loop-at-smaller c =
    omega (arith, c.find_frames-k.ensures.forward, c.loop-at-test.true)

pub loop-at-preserved : goal.loop-at-preserved
loop-at-preserved c =
    let h = c.requires in
    let k = c.put_batch.auto in
    let e = c.find_frames-k.auto.places in
    (passing_on _ _ _ _ _ _ c.loop-at.invariant.0 h.0 c.find_frames-k.ensures e k.pres k.posts k.presence c.put_batch.ensures, e ∙ c.loop-at.invariant.1)

pub shape_of-places : goal.shape_of-places
shape_of-places c = c.loop-at.invariant.1

pub shape_of-pres : goal.shape_of-pres
shape_of-pres c = c.loop-at.invariant.0.put.pres

pub shape_of-posts : goal.shape_of-posts
shape_of-posts c = c.loop-at.invariant.0.put.posts

pub shape_of-presence : goal.shape_of-presence
shape_of-presence c = c.loop-at.invariant.0.put.presence

pub returns : goal.returns
returns c = λ es x. passing_done _ _ _ _ _ _ c.loop-at.invariant.0 (omega (arith, c.loop-at-test.false)) es x
