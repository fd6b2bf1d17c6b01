use mathlib.Core.Path.{sym}
use lib.Seq.{length-take-le}
use Rattle.events.proofs.rows.put_row.Goals as goal

pub slice_bounds-put-end : goal.slice_bounds-put-end
slice_bounds-put-end c = sym (length-take-le _ _ c.requires.0)
