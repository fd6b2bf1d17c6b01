use mathlib.Core.Path.{refl, sym}
use native.Mathlib.Omega.{arith}
use Rattle.std.proofs.lemmas.Result.{err_from_is_err_and}
use Rattle.wire.proofs.Writers.{room_first, room_second, wrote_then}
use Rattle.start.proofs.Refusals.{block_fits}
use Rattle.live.proofs.Laws.{head_passes, whole_as}
use Rattle.live.proofs.Outcomes.{head_judged_lem, head_short, head_room, head_written}
use Rattle.live.proofs.begin.write_head.Goals as goal

pub returns-in_err-judge_head : goal.returns-in_err-judge_head
returns-in_err-judge_head c =
    let p = err_from_is_err_and c.from_residual.result c.from_residual.ensures.1 in rw (p.1, p.2) (head_judged_lem _ _ _ c.in_err-judge_head.ensures)

pub head_len-len-requires : goal.head_len-len-requires
head_len-len-requires c = let p = head_passes _ (sym c.in_ok-judge_head.ensures) in omega (arith, block_fits _ _ p.block)

pub returns-then-out-len : goal.returns-then-out-len
returns-then-out-len c = head_short _ _ (sym c.in_ok-judge_head.ensures) _ c.head_len-len.ensures c.if-out-len.true

pub put_front-p-requires : goal.put_front-p-requires
put_front-p-requires c =
    let z = sym c.in_ok-judge_head.ensures in
    (omega (arith, block_fits _ _ (head_passes _ z).block), room_first _ (head_room _ _ z _ c.head_len-len.ensures refl c.if-out-len.false))

pub put_block-q-requires : goal.put_block-q-requires
put_block-q-requires c =
    let z = sym c.in_ok-judge_head.ensures in
    let p = head_passes _ z in
    let r = head_room _ _ z _ c.head_len-len.ensures refl c.if-out-len.false in
    ((block_fits _ _ p.block).0, p.start, room_first _ (room_second r c.put_front-p.ensures))

pub put_codes-end-requires : goal.put_codes-end-requires
put_codes-end-requires c =
    let z = sym c.in_ok-judge_head.ensures in
    let p = head_passes _ z in
    let r = head_room _ _ z _ c.head_len-len.ensures c.is_given.ensures c.if-out-len.false in
    (λ t. whole_as _ p c.is_given.ensures t, room_second (room_second r c.put_front-p.ensures) c.put_block-q.ensures)

pub returns : goal.returns
returns c =
    let z = sym c.in_ok-judge_head.ensures in
    head_written _ _ z _ c.head_len-len.ensures c.if-out-len.false c.is_given.ensures
    (wrote_then c.put_front-p.ensures (wrote_then c.put_block-q.ensures c.put_codes-end.ensures))
