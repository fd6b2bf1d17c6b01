use mathlib.Core.Path.{◌∙◌, ap}
use mathlib.Core.List.{List}
use Prim.Native.Nat.{ℕ}
use native.Mathlib.Omega.{arith}
use lib.ListN.{get_or}
use Rattle.wire.proofs.Laws.{get_in}
use Rattle.gather.proofs.eight_at.Goals as goal

pub returns : goal.returns
returns c = record {
  long = c.copy_from_slice.ensures.len;
  each = λ t h. ap (λ (l : List ℕ). get_or l t 0) c.copy_from_slice.ensures.after ∙ get_in c.args.places.now c.args.i _ t (omega arith);
}
