use Prim.Native.Nat.{◌+◌}
use native.Mathlib.Numerals.{add-one}
use Rattle.index_form.proofs.Laws.{moment_some}
use Rattle.index_form.proofs.moment_at.Goals as goal

pub returns : goal.returns
returns c = moment_some _ _ (c.args.row + 1) c.args.row (add-one c.args.row) _ c.get_be-offset.ensures
