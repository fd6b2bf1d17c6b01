use mathlib.Core.Path.{sym, ◌∙◌}
use native.Mathlib.Omega.{arith}
use Rattle.std.proofs.lemmas.Result.{err_from_is_err_and}
use borrow.Author.Rules.{rules}
use Rattle.wire.proofs.Writers.{room_first, room_second, wrote_as, wrote_then}
use Rattle.ser.proofs.Files.{framed}
use Rattle.ser.proofs.Outcomes.{passes, judged_refused, short_refused, written}
use Rattle.start.proofs.Refusals.{block_fits}
use Rattle.ser.proofs.Steps.{whole, total_is, raw_fits, file_as, room}
use Rattle.ser.proofs.write.write.Goals as goal

pub returns-in_err-judge : goal.returns-in_err-judge
returns-in_err-judge c =
    let p = err_from_is_err_and c.from_residual.result c.from_residual.ensures.1 in rw (p.1, p.2) (judged_refused _ c.in_err-judge.ensures)

pub slots_of-s-requires : goal.slots_of-s-requires
slots_of-s-requires c = let p = passes _ _ (sym c.in_ok-judge.ensures) in (p.frames.modest, p.frames.presence.even)

pub raw_len-raw-requires : goal.raw_len-raw-requires
raw_len-raw-requires c =
    let p = passes _ _ (sym c.in_ok-judge.ensures) in
    (p.frames.modest, c.slots_of-s.ensures, p.frames.presence.right, omega (arith, block_fits _ _ p.block))

pub tail_len-tail-requires : goal.tail_len-tail-requires
tail_len-tail-requires c = let p = passes _ _ (sym c.in_ok-judge.ensures) in omega (arith, p.metadata_few, c.given_bytes.ensures)

pub returns-then-out-total : goal.returns-then-out-total
returns-then-out-total c =
    let p = passes _ _ (sym c.in_ok-judge.ensures) in
    short_refused _ c.in_ok-judge.ensures (total_is p _ c.raw_len-raw.ensures.0 _ _ _ c.is_given.ensures c.given_bytes.ensures c.tail_len-tail.ensures.0) c.if-out-total.true

pub overflow_cast-raw : goal.overflow_cast-raw
overflow_cast-raw c =
    let p = passes _ _ (sym c.in_ok-judge.ensures) in
    let h = raw_fits p _ c.raw_len-raw.ensures.0 (omega (arith, c.slots_of-s.ensures.count, c.slots_of-s.ensures.few)) in
    record { fits = h }

pub put_front-p-requires : goal.put_front-p-requires
put_front-p-requires c =
    let p = passes _ _ (sym c.in_ok-judge.ensures) in (
      omega (arith, block_fits _ _ p.block),
      room_first _
          (room p _ c.raw_len-raw.ensures.0 _ (total_is p _ c.raw_len-raw.ensures.0 _ _ _ c.is_given.ensures c.given_bytes.ensures c.tail_len-tail.ensures.0) c.if-out-total.false),
    )

pub put_block-q-requires : goal.put_block-q-requires
put_block-q-requires c =
    let p = passes _ _ (sym c.in_ok-judge.ensures) in
    let r = room p _ c.raw_len-raw.ensures.0 _ (total_is p _ c.raw_len-raw.ensures.0 _ _ _ c.is_given.ensures c.given_bytes.ensures c.tail_len-tail.ensures.0) c.if-out-total.false in
    ((block_fits _ _ p.block).0, p.start, room_first _ (room_second r c.put_front-p.ensures))

pub put_rest-requires : goal.put_rest-requires
put_rest-requires c =
    let p = passes _ _ (sym c.in_ok-judge.ensures) in
    let r = room p _ c.raw_len-raw.ensures.0 _ (total_is p _ c.raw_len-raw.ensures.0 _ _ _ c.is_given.ensures c.given_bytes.ensures c.tail_len-tail.ensures.0) c.if-out-total.false in
    (whole p, framed p.frames, c.slots_of-s.ensures, room_second (room_second r c.put_front-p.ensures) c.put_block-q.ensures)

pub returns : goal.returns
returns c =
    let p = passes _ _ (sym c.in_ok-judge.ensures) in
    written _ c.in_ok-judge.ensures (total_is p _ c.raw_len-raw.ensures.0 _ _ _ c.is_given.ensures c.given_bytes.ensures c.tail_len-tail.ensures.0) c.if-out-total.false
    (wrote_as (sym (file_as p _ c.raw_len-raw.ensures.0)) (wrote_then c.put_front-p.ensures (wrote_then c.put_block-q.ensures c.put_rest.ensures)))
