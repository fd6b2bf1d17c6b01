use mathlib.Core.Path.{refl}
use Rattle.wire.proofs.Writers.{left_start, left_step, left_room, left_done}
use Rattle.layout.proofs.Entries.{entries_step, entries_done}
use Rattle.layout.proofs.payloads.put_entries.Goals as goal

pub loop-e-init : goal.loop-e-init
loop-e-init c = left_start

pub put_u8-p-requires : goal.put_u8-p-requires
put_u8-p-requires c =
    let l = c.loop-e in
    left_room _ l.invariant (entries_step _ l.e-index _ _ c.loop-e-test.true refl) c.requires

pub put_u16-p-requires : goal.put_u16-p-requires
put_u16-p-requires c =
    let l = c.loop-e in
    left_room _ (left_step l.invariant (entries_step _ l.e-index _ _ c.loop-e-test.true refl) c.put_u8-p.ensures) refl c.requires

pub loop-e-preserved : goal.loop-e-preserved
loop-e-preserved c =
    let l = c.loop-e in
    left_step (left_step l.invariant (entries_step _ l.e-index _ _ c.loop-e-test.true refl) c.put_u8-p.ensures) refl c.put_u16-p.ensures

pub shape_of-out : goal.shape_of-out
shape_of-out c = c.loop-e.invariant.same

pub returns : goal.returns
returns c = left_done c.loop-e.invariant (entries_done _ _ c.loop-e-test.false)
