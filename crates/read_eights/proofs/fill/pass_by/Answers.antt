use mathlib.Core.Path.{◌≡◌, refl, ◌∙◌}
use Prim.Native.Nat.{◌-◌}
use native.Mathlib.Omega.{arith}
use lib.ListN.{length}
use Rattle.read_event.specs.Parts.{seats, seating}
use Rattle.read_eights.proofs.Passing.{Passing, passing_first, passing_rooms, passing_on, passing_done}
use Rattle.read_eights.proofs.fill.pass_by.Reads as reads
use Rattle.read_eights.proofs.fill.pass_by.Lts as lts
use Rattle.read_eights.proofs.eights.put_batch.Reads as put-batch-reads
use Rattle.read_places.proofs.alike.find_next.Reads as find-next-reads
use Rattle.read_eights.proofs.fill.pass_by.Goals as goal

pub loop-at-init : goal.loop-at-init
loop-at-init c = let h = c.requires in (passing_first _ _ _ _ _ _ _ _ h.1 h.4 h.3, refl)

pub find_next-k-requires : goal.find_next-k-requires
find_next-k-requires c = let l = c.loop-at.invariant.0 in (l.long, c.loop-at-test.true, l.few, l.some, l.whole, c.requires.2.modest)

pub put_batch-requires : goal.put_batch-requires
put_batch-requires c =
    let b = c.find_next-k.ensures in
    let l = c.loop-at.invariant.0 in
    (b.few, b.many, omega (arith, l.long, c.find_next-k.auto.places), b.whole, c.requires.0, passing_rooms _ _ _ _ _ _ l c.requires.2, b.bound)

pub overflow_sub-k : goal.overflow_sub-k
overflow_sub-k c = omega (arith, c.find_next-k.ensures.forward)

pub loop-at-smaller : goal.loop-at-smaller
loop-at-smaller c =
    omega (arith, c.find_next-k.ensures.forward, c.loop-at-test.true)

pub loop-at-preserved : goal.loop-at-preserved
loop-at-preserved c =
    let k = c.put_batch.auto in
    let e = c.find_next-k.auto.places in
    (passing_on _ _ _ _ _ _ c.loop-at.invariant.0 c.requires.0 c.find_next-k.ensures e k.pres k.posts k.presence c.put_batch.ensures, e ∙ c.loop-at.invariant.1)

pub shape_of-places : goal.shape_of-places
shape_of-places c = c.loop-at.invariant.1

pub shape_of-pres : goal.shape_of-pres
shape_of-pres c = c.loop-at.invariant.0.put.pres

pub shape_of-posts : goal.shape_of-posts
shape_of-posts c = c.loop-at.invariant.0.put.posts

pub shape_of-presence : goal.shape_of-presence
shape_of-presence c = c.loop-at.invariant.0.put.presence

pub returns : goal.returns
returns c = λ es x. passing_done _ _ _ _ _ _ c.loop-at.invariant.0 c.requires.0 (omega (arith, c.loop-at-test.false)) es x
