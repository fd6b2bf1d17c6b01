use mathlib.Core.Path.{refl}
use native.Mathlib.Omega.{arith}
use Rattle.start_block.proofs.Seats.{seats_step, seats_done}
use Rattle.start.proofs.Refusals.{none_at, none_later}
use Rattle.start_block.proofs.seat.put_seats.Goals as goal

pub loop-n-init : goal.loop-n-init
loop-n-init c = (omega arith, refl, c.requires.1, refl)

pub put_seat-requires : goal.put_seat-requires
put_seat-requires c =
    let l = c.loop-n in
    (omega arith, omega arith, none_at _ _ _ l.n (omega arith) l.invariant.2)

pub loop-n-preserved : goal.loop-n-preserved
loop-n-preserved c =
    let l = c.loop-n in (
      omega arith,
      omega (arith, c.put_seat.auto.block),
      none_later _ _ l.n l.invariant.2,
      seats_step _ _ l.n l.invariant.3 _ (omega arith) c.put_seat.ensures,
    )

pub shape_of-block : goal.shape_of-block
shape_of-block c = c.loop-n.invariant.1

pub returns : goal.returns
returns c = record { after_is = seats_done _ _ c.loop-n.n c.loop-n.invariant.3 (omega arith) }
