use mathlib.Core.Path.{refl, sym, ap, ◌∙◌}
use Rattle.std.proofs.lemmas.Result.{err_from_is_err_and}
use native.Mathlib.Omega.{arith}
use lib.ListN.{length}
use lib.Seq.{length-take-le}
use Rattle.wire.proofs.Writers.{room_first, room_second, wrote_as, wrote_then}
use Rattle.start.proofs.Refusals.{block_fits}
use Rattle.ser.proofs.Files.{framed}
use Rattle.ser.proofs.Outcomes.{passes}
use Rattle.ser.proofs.Steps.{whole}
use Rattle.final_file.proofs.Outcomes.{ready, judged_refused, short_refused, written}
use Rattle.final_file.proofs.Steps.{mask_length, mask_long, mask_in, total_is, raw_fits, file_as, room, countable}
use borrow.Author.Rules.{rules}
use Rattle.final_file.proofs.write.write_final.Goals as goal

pub returns-in_err-judge : goal.returns-in_err-judge
returns-in_err-judge c =
    let p = err_from_is_err_and c.from_residual.result c.from_residual.ensures.1 in rw (p.1, p.2) (judged_refused _ c.in_err-judge.ensures)

pub slots_of-s-requires : goal.slots_of-s-requires
slots_of-s-requires c =
    let p = passes _ _ (ready _ _ _ (sym c.in_ok-judge.ensures)).eleven in (p.frames.modest, p.frames.presence.even)

pub raw_len-raw-requires : goal.raw_len-raw-requires
raw_len-raw-requires c =
    let r = ready _ _ _ (sym c.in_ok-judge.ensures) in let p = passes _ _ r.eleven in
    (p.frames.presence.right, omega (arith, block_fits _ _ p.block), countable r _ c.slots_of-s.ensures)

pub tail_len-requires : goal.tail_len-requires
tail_len-requires c =
    (passes _ _ (ready _ _ _ (sym c.in_ok-judge.ensures)).eleven).metadata_few

pub returns-then-out-total : goal.returns-then-out-total
returns-then-out-total c =
    let r = ready _ _ _ (sym c.in_ok-judge.ensures) in
    short_refused _ c.in_ok-judge.ensures (total_is r _ c.raw_len-raw.ensures.0 _ c.tail_len.ensures.0) c.if-out-total.true

pub slice_bounds-mask_rows-end : goal.slice_bounds-mask_rows-end
slice_bounds-mask_rows-end c =
    (ready _ _ _ (sym c.in_ok-judge.ensures)).room

pub slice_bounds-mask_rows-end-2 : goal.slice_bounds-mask_rows-end-2
slice_bounds-mask_rows-end-2 c =
    sym (length-take-le _ _ (ready _ _ _ (sym c.in_ok-judge.ensures)).room)

pub mask_rows-requires : goal.mask_rows-requires
mask_rows-requires c =
    let r = ready _ _ _ (sym c.in_ok-judge.ensures) in (length-take-le _ _ r.room, r.range)

pub overflow_cast-raw : goal.overflow_cast-raw
overflow_cast-raw c =
    let r = ready _ _ _ (sym c.in_ok-judge.ensures) in record { fits = raw_fits r _ c.raw_len-raw.ensures.0 }

pub put_front-p-requires : goal.put_front-p-requires
put_front-p-requires c =
    let r = ready _ _ _ (sym c.in_ok-judge.ensures) in let p = passes _ _ r.eleven in
    (omega (arith, block_fits _ _ p.block), room_first _ (room r _ c.raw_len-raw.ensures.0 _ (total_is r _ c.raw_len-raw.ensures.0 _ c.tail_len.ensures.0) c.if-out-total.false _ refl))

pub put_block-q-requires : goal.put_block-q-requires
put_block-q-requires c =
    let r = ready _ _ _ (sym c.in_ok-judge.ensures) in let p = passes _ _ r.eleven in
    let q = room r _ c.raw_len-raw.ensures.0 _ (total_is r _ c.raw_len-raw.ensures.0 _ c.tail_len.ensures.0) c.if-out-total.false _ refl in
    ((block_fits _ _ p.block).0, p.start, room_first _ (room_second q c.put_front-p.ensures))

pub slice_bounds-put_rest-end : goal.slice_bounds-put_rest-end
slice_bounds-put_rest-end c =
    mask_long _ _ c.args.scratch.now c.mask_rows.ensures

pub slice_bounds-put_rest-end-2 : goal.slice_bounds-put_rest-end-2
slice_bounds-put_rest-end-2 c =
    sym (ap length (mask_in _ _ c.args.scratch.now c.mask_rows.ensures) ∙ mask_length _)

pub put_rest-requires : goal.put_rest-requires
put_rest-requires c =
    let r = ready _ _ _ (sym c.in_ok-judge.ensures) in let p = passes _ _ r.eleven in
    let m = mask_in _ _ _ c.mask_rows.ensures in
    let q = room r _ c.raw_len-raw.ensures.0 _ (total_is r _ c.raw_len-raw.ensures.0 _ c.tail_len.ensures.0) c.if-out-total.false _ m in
    (whole p, framed p.frames, c.slots_of-s.ensures, ap length m ∙ mask_length _ ∙ p.frames.ids, room_second (room_second q c.put_front-p.ensures) c.put_block-q.ensures)

pub returns : goal.returns
returns c =
    let r = ready _ _ _ (sym c.in_ok-judge.ensures) in
    let m = mask_in _ _ _ c.mask_rows.ensures in
    written _ c.in_ok-judge.ensures (total_is r _ c.raw_len-raw.ensures.0 _ c.tail_len.ensures.0) c.if-out-total.false
    (wrote_as (sym (file_as r _ c.raw_len-raw.ensures.0 _ m)) (wrote_then c.put_front-p.ensures (wrote_then c.put_block-q.ensures c.put_rest.ensures))) c.mask_rows.ensures
