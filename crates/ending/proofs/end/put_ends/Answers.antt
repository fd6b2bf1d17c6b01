-- `ending::end::put_ends` meets its contract: none, one or two ends.
use mathlib.Core.Path.{sym}
use Rattle.wire.proofs.Writers.{room_as, room_first, room_second, room_kept, wrote_as, wrote_then, wrote_kept, wrote_none}
use Rattle.format.proofs.Tests.{no_mark, a_mark}
use Rattle.ending.proofs.Laws.{ends_bytes_lem}
use Rattle.ending.proofs.end.put_ends.Goals as goal

pub returns-then-e-eq0 : goal.returns-then-e-eq0
returns-then-e-eq0 c = wrote_as (sym (ends_bytes_lem _ _ _)) (wrote_none _ _ _ _ (no_mark _ c.if-e-eq0.true))

pub put_end-p-requires : goal.put_end-p-requires
put_end-p-requires c = room_first _ (room_kept _ _ (a_mark _ c.if-e-eq0.false) (room_as (ends_bytes_lem _ _ _) c.requires))

pub returns-then-double-eq0 : goal.returns-then-double-eq0
returns-then-double-eq0 c =
    wrote_as (sym (ends_bytes_lem _ _ _))
    (wrote_kept _ _ (a_mark _ c.if-e-eq0.false) (wrote_then c.put_end-p.ensures (wrote_none _ _ _ _ (no_mark _ c.if-double-eq0.true))))

pub put_end-requires : goal.put_end-requires
put_end-requires c =
    room_kept _ _ (a_mark _ c.if-double-eq0.false)
    (room_second (room_kept _ _ (a_mark _ c.if-e-eq0.false) (room_as (ends_bytes_lem _ _ _) c.requires)) c.put_end-p.ensures)

pub returns : goal.returns
returns c =
    wrote_as (sym (ends_bytes_lem _ _ _))
    (wrote_kept _ _ (a_mark _ c.if-e-eq0.false)
    (wrote_then c.put_end-p.ensures (wrote_kept _ _ (a_mark _ c.if-double-eq0.false) c.put_end.ensures)))
