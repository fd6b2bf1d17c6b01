use mathlib.Core.Path.{sym}
use lib.Seq.{length-take-le}
use Rattle.events.proofs.eights.put_eight_rows.Goals as goal

pub slice_bounds-put_records-end : goal.slice_bounds-put_records-end
slice_bounds-put_records-end c = sym (length-take-le _ _ c.requires.0)
