use Prim.Native.Nat.{◌-◌, ◌≤◌}
use native.Mathlib.Omega.{arith}
use Rattle.read_event.specs.Parts.{seats, seating}
use Rattle.read_eights.specs.Inner.{team_at}
use Rattle.read_eights.proofs.Places.{Put, put_rooms, team_start, team_next, team_done}
use Rattle.read_eights.proofs.eights.put_team.Reads as reads
use Rattle.read_eights.proofs.eights.put_team.Lts as lts
use Rattle.read_eights.proofs.eights.put_across.Reads as put-across-reads
use Rattle.read_eights.proofs.eights.put_team.Given as goal

abbrev pub invariant-loop-j : goal.invariant-loop-j
invariant-loop-j l =
    (l.j ≤ l.count) × Put (seats l.initial.pres l.initial.posts l.initial.presence) (seats l.pres l.posts l.presence) (team_at (seating l.pre l.post l.numbers l.frames) l.file l.places l.j 8 l.n (seats l.initial.pres l.initial.posts l.initial.presence))

abbrev pub decreases-loop-j : goal.decreases-loop-j
decreases-loop-j l = l.count - l.j
