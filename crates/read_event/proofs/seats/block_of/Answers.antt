use mathlib.Core.Path.{◌≡◌, refl, ◌∙◌}
use native.Mathlib.Omega.{arith}
use lib.ListN.{length}
use Rattle.read_event.proofs.Leaves.{index_start, index_here, index_skip, index_none}
use Rattle.read_event.proofs.seats.block_of.Goals as goal

pub loop-k-init : goal.loop-k-init
loop-k-init c = (omega arith, index_start _ _ _ refl)

pub returns-then-numbers-k : goal.returns-then-numbers-k
returns-then-numbers-k c = index_here _ _ c.loop-k.k (omega arith) (omega arith) c.loop-k.invariant.1

pub loop-k-preserved : goal.loop-k-preserved
loop-k-preserved c = (omega arith, index_skip _ _ c.loop-k.k (omega arith) (λ e. absurd (omega arith)) c.loop-k.invariant.1)

pub returns : goal.returns
returns c =
    let e : length c.args.numbers.now ≡ c.loop-k.k = omega arith in
    e ∙ index_none _ _ c.loop-k.k (omega arith) c.loop-k.invariant.1
