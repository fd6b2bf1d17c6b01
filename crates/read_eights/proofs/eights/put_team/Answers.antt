use Prim.Native.Nat.{◌-◌, ◌≤◌}
use native.Mathlib.Omega.{arith}
use Rattle.read_event.specs.Parts.{seats, seating}
use Rattle.read_eights.specs.Inner.{team_at}
use Rattle.read_eights.proofs.Places.{Put, put_rooms, team_start, team_next, team_done}
use Rattle.read_eights.proofs.eights.put_team.Reads as reads
use Rattle.read_eights.proofs.eights.put_team.Lts as lts
use Rattle.read_eights.proofs.eights.put_across.Reads as put-across-reads
use Rattle.read_eights.proofs.eights.put_team.Goals as goal

pub loop-j-init : goal.loop-j-init
loop-j-init c = (omega arith, team_start _ _ _ _ _)

pub overflow_mul-j : goal.overflow_mul-j
overflow_mul-j c = omega (arith, c.requires.0, c.loop-j-test.true)

pub put_across-requires : goal.put_across-requires
put_across-requires c =
    let h = c.requires in
    (omega (arith, h.0, h.1, c.loop-j-test.true), h.2, h.3, put_rooms h.4 c.loop-j.invariant.1, h.5, h.6)

pub overflow_add-j : goal.overflow_add-j
overflow_add-j c = omega (arith, c.loop-j-test.true)

pub loop-j-smaller : goal.loop-j-smaller
loop-j-smaller c = omega (arith, c.loop-j-test.true)

pub loop-j-preserved : goal.loop-j-preserved
loop-j-preserved c =
    let k = c.put_across.auto in
    (omega (arith, c.loop-j-test.true), team_next _ _ _ k.pres k.posts k.presence _ _ c.loop-j.invariant.1 c.put_across.ensures)

pub shape_of-pres : goal.shape_of-pres
shape_of-pres c = c.loop-j.invariant.1.pres

pub shape_of-posts : goal.shape_of-posts
shape_of-posts c = c.loop-j.invariant.1.posts

pub shape_of-presence : goal.shape_of-presence
shape_of-presence c = c.loop-j.invariant.1.presence

pub returns : goal.returns
returns c = let l = c.loop-j.invariant in team_done _ _ _ _ _ _ _ l.1 l.0 (omega (arith, c.loop-j-test.false))
