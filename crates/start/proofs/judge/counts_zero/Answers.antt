use mathlib.Core.Path.{sym, ap, ◌∙◌}
use mathlib.Core.List.{List, map}
use Prim.Native.Nat.{ℕ}
use native.Mathlib.Omega.{arith}
use lib.Seq.{length-take-le, take_all}
use Rattle.format.specs.Refusal.{one_of}
use Rattle.patch.specs.Field.{is_zero}
use Rattle.start.proofs.judge.counts_zero.Goals as goal

pub returns-then-bytes-n : goal.returns-then-bytes-n
returns-then-bytes-n c =
    c.has_zero.ensures ∙ sym (ap (λ (l : List ℕ). one_of (map is_zero l)) (take_all c.args.n c.args.bytes.now (omega arith)))

pub slice_bounds-has_zero-end : goal.slice_bounds-has_zero-end
slice_bounds-has_zero-end c = sym (length-take-le _ _ (omega arith))
