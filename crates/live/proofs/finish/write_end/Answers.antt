use mathlib.Core.Path.{refl, sym}
use native.Mathlib.Omega.{arith}
use Rattle.std.proofs.lemmas.Result.{err_from_is_err_and}
use Rattle.wire.proofs.Writers.{room_first, room_second, wrote_then}
use Rattle.live.specs.End.{ends_bytes}
use Rattle.live.proofs.Laws.{end_passes}
use Rattle.live.proofs.Outcomes.{end_judged_lem, end_short, end_room, end_written}
use Rattle.live.proofs.finish.write_end.Goals as goal

pub returns-in_err-judge_end : goal.returns-in_err-judge_end
returns-in_err-judge_end c =
    let p = err_from_is_err_and c.from_residual.result c.from_residual.ensures.1 in rw (p.1, p.2) (end_judged_lem _ _ _ _ c.in_err-judge_end.ensures)

pub end_len-len-requires : goal.end_len-len-requires
end_len-len-requires c = let p = end_passes _ (sym c.in_ok-judge_end.ensures) in omega (arith, p.metadata_few, c.given_bytes.ensures)

pub returns-then-is_short : goal.returns-then-is_short
returns-then-is_short c = end_short _ _ _ (sym c.in_ok-judge_end.ensures) _ _ c.given_bytes.ensures c.end_len-len.ensures c.is_short.ensures c.if-is_short.true

pub put_ends-events-requires : goal.put_ends-events-requires
unfolding ends_bytes
put_ends-events-requires c =
    let z = sym c.in_ok-judge_end.ensures in
    room_first _ (end_room _ _ _ z _ _ c.given_bytes.ensures c.end_len-len.ensures c.is_short.ensures c.if-is_short.false refl)

pub put_tail-last-requires : goal.put_tail-last-requires
unfolding ends_bytes
put_tail-last-requires c =
    let z = sym c.in_ok-judge_end.ensures in
    room_second (end_room _ _ _ z _ _ c.given_bytes.ensures c.end_len-len.ensures c.is_short.ensures c.if-is_short.false c.is_given.ensures) c.put_ends-events.ensures

pub returns : goal.returns
unfolding ends_bytes
returns c =
    let z = sym c.in_ok-judge_end.ensures in
    end_written _ _ _ z _ _ c.given_bytes.ensures c.end_len-len.ensures c.is_short.ensures c.if-is_short.false c.is_given.ensures
    c.put_ends-events.ensures (wrote_then c.put_ends-events.ensures c.put_tail-last.ensures)
