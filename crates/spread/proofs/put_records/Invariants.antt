-- The invariant: whoever writes the heads and the k first cells of the rows has then written the records.
use mathlib.Core.Path.{◌≡◌}
use Prim.Native.Nat.{◌+◌, ◌≤◌}
use lib.ListN.{length, take}
use Rattle.layout.specs.Columns.{sum}
use Rattle.record.specs.Inner.{head_bytes}
use Rattle.spread.specs.Inner.{place_at, record_at}
use Rattle.spread.proofs.Laws.{Behinds, begun}
use Rattle.spread.proofs.put_records.Given as goal

abbrev pub invariant-loop-k : goal.invariant-loop-k
invariant-loop-k l =
    (l.k ≤ length l.widths)
    × (l.q ≡ l.off + (length (head_bytes l.h) + sum (take l.k l.widths)))
    × Behinds l.initial.out (place_at l.places l.i l.off) (record_at l.h l.ids l.j l.widths l.cells l.stride l.first) l.out (begun l.h l.ids l.j l.widths l.cells l.stride l.first l.k)
