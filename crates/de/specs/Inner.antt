-- What the walking loop promises the walk.
-- Assumes nothing.
use Rattle.std.specs.Prelude.{length}
use Rattle.de.specs.Walk.{Run}
use Rattle.de.specs.declared.Stop.{Stop}

-- where a run stops
abbrev pub stopped : Run → Stop
stopped r = record { place = r.place; events = length r.seen; last = r.last }
