use mathlib.Core.Path.{◌≡◌, ap, ◌∙◌}
use Prim.Native.Nat.{◌+◌, ◌-◌}
use native.Mathlib.Omega.{arith}
use Rattle.format.proofs.Versions.{no_way}
use Rattle.read_places.specs.Inner.{is_players}
use Rattle.read_places.proofs.Scans.{each_get}
use Rattle.read_eights.proofs.Places.{player_seven, Heads, heads_one, heads_more, heads_all}
use Rattle.read_eights.proofs.eights.is_same.Reads as reads
use Rattle.read_eights.proofs.eights.is_same.Lts as lts
use Rattle.read_eights.proofs.eights.is_same.Given as goal

abbrev pub invariant-loop-t : goal.invariant-loop-t
invariant-loop-t l = Heads l.file l.places l.i l.t

abbrev pub decreases-loop-t : goal.decreases-loop-t
decreases-loop-t l = 8 - l.t
