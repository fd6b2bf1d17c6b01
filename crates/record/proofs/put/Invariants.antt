-- The invariant: whoever writes the head and the k first cells has then written the record.
use mathlib.Core.Path.{◌≡◌}
use mathlib.Core.List.{◌++◌}
use Prim.Native.Nat.{◌+◌, ◌≤◌}
use lib.ListN.{length, take}
use Rattle.wire.proofs.Writers.{Behind}
use Rattle.format.specs.File.{event_bytes}
use Rattle.layout.specs.Columns.{sum}
use Rattle.record.specs.Record.{cells_bytes, record_of}
use Rattle.record.specs.Inner.{head_bytes}
use Rattle.record.proofs.put.Given as goal

abbrev pub invariant-loop-k : goal.invariant-loop-k
invariant-loop-k l =
    (l.k ≤ length l.widths)
    × (l.q ≡ l.at + (length (head_bytes l.h) + sum (take l.k l.widths)))
    × Behind l.initial.out l.at (event_bytes (record_of l.h l.widths l.cells l.stride l.first)) l.out (head_bytes l.h ++ cells_bytes (take l.k l.widths) l.cells l.stride l.first)
