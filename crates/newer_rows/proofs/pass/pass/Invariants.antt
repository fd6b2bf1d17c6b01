use mathlib.Core.Path.{◌∙◌}
use Prim.Native.Nat.{◌-◌}
use native.Mathlib.Omega.{arith}
use Rattle.read_event.specs.Known.{plan_in}
use Rattle.read_event.specs.Parts.{rows}
use Rattle.read_rows.proofs.Passing.{offsets_done}
use Rattle.newer_rows.proofs.Passing.{Filling, filling_first, filling_rooms, filling_whole, filling_span, filling_covers, filling_on, filling_done}
use Rattle.newer_rows.proofs.pass.pass.Reads as reads
use Rattle.newer_rows.proofs.pass.pass.Lts as lts
use Rattle.newer_rows.proofs.pass.next_row.Reads as next-row-reads
use Rattle.newer_rows.proofs.pass.nothing.Reads as nothing-reads
use Rattle.read_event.proofs.marks.mark_offsets.Reads as mark-offsets-reads
use Rattle.read_scan.proofs.event.span_of.Reads as span-of-reads
use Rattle.read_turn.proofs.turn.turn.Reads as turn-reads
use Rattle.newer_rows.proofs.pass.pass.Given as goal

abbrev pub invariant-loop-at : goal.invariant-loop-at
invariant-loop-at l =
    Filling l.k.course.spans (plan_in l.k l.widths) l.file l.spans l.first l.stop (rows l.initial.ids l.initial.starts l.initial.ends l.initial.items l.initial.fods l.initial.whispys l.initial.stadiums l.initial.item_offsets l.initial.fod_offsets l.initial.whispy_offsets l.initial.stadium_offsets) (rows l.ids l.starts l.ends l.items l.fods l.whispys l.stadiums l.item_offsets l.fod_offsets l.whispy_offsets l.stadium_offsets) l.s l.at

abbrev pub decreases-loop-at : goal.decreases-loop-at
decreases-loop-at l = l.stop - l.at
