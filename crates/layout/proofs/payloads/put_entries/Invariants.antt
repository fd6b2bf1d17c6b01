use mathlib.Core.List.{map}
use lib.ListN.{drop}
use Rattle.format.specs.File.{entries_bytes}
use Rattle.wire.proofs.Writers.{Left}
use Rattle.layout.specs.Inner.{entry_as}
use Rattle.layout.proofs.payloads.put_entries.Given as goal

abbrev pub invariant-loop-e : goal.invariant-loop-e
invariant-loop-e l =
    Left l.initial.out l.at (entries_bytes (map entry_as l.entries)) l.out l.p (entries_bytes (map entry_as (drop l.e-index l.entries)))
