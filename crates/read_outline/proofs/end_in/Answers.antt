use native.Mathlib.Omega.{arith}
use mathlib.Core.Path.{◌∙◌, ap, sym}
use native.Mathlib.Nat.{add-zero}
use lib.ListN.{get_or}
use Rattle.read_outline.proofs.Laws.{size_some, byte_in, end_as}
use Rattle.read_outline.proofs.end_in.Goals as goal

pub bounds-file-at : goal.bounds-file-at
bounds-file-at c = omega (arith, size_some c.args.v)

pub returns : goal.returns
returns c =
    let a = c.args in end_as _ _ _ _ _ _ (ap (λ n. get_or a.file.now n 0) (sym (add-zero a.at)) ∙ byte_in a.file.now a.at _ 0 (omega (arith, size_some a.v))) c.initiator_in.ensures c.placed_in.ensures c.placements_in.ensures
