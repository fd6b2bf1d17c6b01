use native.Mathlib.Omega.{arith}
use Prim.Native.Nat.{◌+◌, ◌<◌}
use lib.ListN.{length}
use Rattle.game.specs.Frames.{ports_of, slots_of}
use Rattle.players.proofs.SlotLaws.{slots_few, follower_slot}
use Rattle.transpose.proofs.Slotting.{seat_refused, seat_none, seat_both, seat_one}
use Rattle.transpose.proofs.ports.seat_at.Goals as goal
use Rattle.transpose.proofs.ports.seat_at.Goals.{Else-ports_in-k, Then-has_follower}

pub returns-then-not-shown : goal.returns-then-not-shown
returns-then-not-shown c = seat_refused _ _ _ c.if-not-shown.true c.no_seat.ensures

-- the port column is there
inside : (c : Else-ports_in-k) → let a = c.args in a.k < length (ports_of a.f)
inside c = omega (arith, c.if-ports_in-k.false, c.ports_in.ensures.0)

pub returns-then-ports_in-k : goal.returns-then-ports_in-k
returns-then-ports_in-k c = seat_none _ _ _ c.if-not-shown.false (omega (arith, c.if-ports_in-k.true, c.ports_in.ensures.0)) c.no_seat-then-ports_in-k.ensures

pub port-p-requires : goal.port-p-requires
port-p-requires c = inside c

pub slots_before-slot-requires : goal.slots_before-slot-requires
slots_before-slot-requires c = omega (arith, inside (goal.at.slots_before-slot-requires c).Else-ports_in-k)

-- the port column is there
inside_at_Then-has_follower : (c : Then-has_follower) → let a = c.args in a.k < length (ports_of a.f)
inside_at_Then-has_follower c = omega (arith, c.if-ports_in-k.false, c.ports_in.ensures.0)

-- the follower's slot is there
second : (c : Then-has_follower) → c.slots_before-slot.result + 1 < length (slots_of c.args.f)
second c =
    let a = c.args in
    omega (arith, follower_slot a.f a.k c.port-p.result (inside_at_Then-has_follower c) c.port-p.ensures c.has_follower.ensures c.if-has_follower.true, c.slots_before-slot.ensures)

pub returns-then-has_follower : goal.returns-then-has_follower
returns-then-has_follower c =
    seat_both _ _ _ c.if-not-shown.false (inside (goal.at.returns-then-has_follower c).Else-ports_in-k) c.port-p.ensures c.slots_before-slot.ensures c.has_follower.ensures c.if-has_follower.true

pub returns : goal.returns
returns c =
    seat_one _ _ _ c.if-not-shown.false (inside (goal.at.returns c).Else-ports_in-k) c.port-p.ensures c.slots_before-slot.ensures c.has_follower.ensures c.if-has_follower.false

pub overflow_add-result : goal.overflow_add-result
overflow_add-result c = omega (arith, second c, slots_few c.args.f)
