use mathlib.Core.Path.{◌∙◌}
use native.Mathlib.Omega.{arith}
use Rattle.players.proofs.SlotLaws.{before_all, slots_few}
use Rattle.players.proofs.slots.slot_count.Goals as goal

pub returns : goal.returns
returns c =
    let f = c.args.f in
    let all = c.slots_before.ensures ∙ before_all f _ c.ports_in.ensures.0 in
    (all, omega (arith, all, slots_few f))
