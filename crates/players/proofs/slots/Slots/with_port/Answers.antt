use native.Mathlib.Omega.{arith}
use Rattle.game.proofs.Ports.{bytes_both}
use Rattle.players.proofs.SlotLaws.{grown_then, grown_as, slots_both, slots_one, bytes_leader}
use Rattle.players.proofs.slots.Slots.with_port.Goals as goal

pub overflow_cast-p : goal.overflow_cast-p
overflow_cast-p c = record { fits = omega (arith, bytes_leader c.args.p, c.requires.2) }

pub overflow_add-at : goal.overflow_add-at
overflow_add-at c = omega (arith, bytes_leader c.args.p, c.requires.2)

pub overflow_cast-p-then-has_follower : goal.overflow_cast-p-then-has_follower
overflow_cast-p-then-has_follower c =
    record { fits = omega (arith, bytes_both c.args.p c.has_follower.result c.has_follower.ensures c.if-has_follower.true, c.requires.2) }

pub returns-then-has_follower : goal.returns-then-has_follower
returns-then-has_follower c =
    grown_as (slots_both _ _ c.has_follower.ensures c.args.at c.if-has_follower.true) (grown_then c.with-leader.ensures c.with.ensures)

pub returns : goal.returns
returns c =
    grown_as (slots_one _ _ c.has_follower.ensures c.args.at c.if-has_follower.false) c.with-leader.ensures
