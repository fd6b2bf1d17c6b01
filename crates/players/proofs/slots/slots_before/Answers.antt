use mathlib.Core.Path.{◌≡◌, ap, ◌∙◌}
use native.Mathlib.Omega.{arith}
use Rattle.game.proofs.Ports.{length_ports}
use Rattle.players.specs.Presence.{slots_before}
use Rattle.players.proofs.SlotLaws.{before_none, before_both, before_one}
use Rattle.players.proofs.slots.slots_before.Goals as goal
use Rattle.players.proofs.slots.slots_before.Goals.{then-has_follower, else-has_follower}

pub loop-j-init : goal.loop-j-init
loop-j-init c = (omega arith, omega arith, before_none c.args.f)

pub port-p-requires : goal.port-p-requires
port-p-requires c = omega (arith, c.requires)

pub overflow_add-n : goal.overflow_add-n
overflow_add-n c = omega (arith, c.requires, length_ports c.args.f)

pub overflow_add-n-then-has_follower : goal.overflow_add-n-then-has_follower
overflow_add-n-then-has_follower c = omega (arith, c.requires, length_ports c.args.f)

pub loop-j-preserved : goal.loop-j-preserved
loop-j-preserved c =
    let both = before_both c.args.f c.loop-j.j c.port-p.result (omega (arith, c.requires)) c.port-p.ensures c.has_follower.ensures in
    let one = before_one c.args.f c.loop-j.j c.port-p.result (omega (arith, c.requires)) c.port-p.ensures c.has_follower.ensures in
    elim c.if-has_follower.branch [
      | then-has_follower w ↦ (omega arith, omega arith, omega (arith, c.loop-j.invariant.2, both w.if-has_follower.true))
      | else-has_follower w ↦ (omega arith, omega arith, omega (arith, c.loop-j.invariant.2, one w.if-has_follower.false))
    ]

pub returns : goal.returns
returns c =
    let e : c.loop-j.j ≡ c.args.k = omega arith in
    c.loop-j.invariant.2 ∙ ap (slots_before c.args.f) e
