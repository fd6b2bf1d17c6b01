-- The invariant: the last of all rows is the last of those up to here.
use mathlib.Core.Path.{◌≡◌}
use Rattle.index_form.specs.Form.{id_at}
use Rattle.index_form.specs.Find.{last_among}
use Rattle.index_form.proofs.last_row.Given as goal

abbrev pub invariant-loop-i : goal.invariant-loop-i
invariant-loop-i l = last_among (id_at l.index) l.id l.n ≡ last_among (id_at l.index) l.id l.i
