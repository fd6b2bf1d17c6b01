use mathlib.Core.Path.{refl}
use native.Mathlib.Omega.{arith}
use lib.ListN.{length-set}
use Rattle.wire.proofs.Laws.{stored}
use Rattle.players.specs.Inner.{slot_in}
use Rattle.columns.specs.Columns.{slot_number}
use Rattle.read_event.proofs.Plans.{numbered}
use Rattle.read_event.proofs.numbers.numbers_of.Goals as goal

pub loop-k-init : goal.loop-k-init
loop-k-init c = (omega arith, refl, λ j h. absurd (omega arith))

pub loop-k-preserved : goal.loop-k-preserved
loop-k-preserved c =
    let l = c.loop-k in (
      omega arith,
      simp length-set l.invariant.1,
      λ j h. stored 0 l.of l.k _ (λ i. slot_number (slot_in c.args.s i)) j (omega (arith, l.invariant.1)) refl (λ n. l.invariant.2 j (omega arith)),
    )

pub returns : goal.returns
returns c = numbered _ _ _ c.requires c.loop-k.invariant.1 (λ j h. c.loop-k.invariant.2 j (omega arith))
