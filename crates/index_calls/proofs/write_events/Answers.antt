use native.Mathlib.Omega.{arith}
use Rattle.wire.proofs.Writers.{wrote_length}
use Rattle.index_calls.proofs.Laws.{write_judged, write_short, write_done, index_room}
use Rattle.index_calls.proofs.write_events.Goals as goal

pub judge-j-requires : goal.judge-j-requires
judge-j-requires c = c.requires

pub returns-then-j-ne0 : goal.returns-then-j-ne0
returns-then-j-ne0 c = write_judged c.judge-j.result c.judge-j.ensures c.if-j-ne0.true _

pub overflow_mul-len : goal.overflow_mul-len
overflow_mul-len c = let j = c.judge-j in let e = c.if-j-ne0.false in omega (arith, j.ensures.few e)

pub overflow_add-len : goal.overflow_add-len
overflow_add-len c = let j = c.judge-j in let e = c.if-j-ne0.false in omega (arith, j.ensures.few e)

pub returns-then-out-len : goal.returns-then-out-len
returns-then-out-len c = let j = c.judge-j in let e = c.if-j-ne0.false in write_short j.result j.ensures e _ c.if-out-len.true

pub put_index-requires : goal.put_index-requires
put_index-requires c = let j = c.judge-j in let e = c.if-j-ne0.false in (j.ensures.ready e, j.ensures.rows_are e, j.ensures.few e, index_room j.result j.ensures e _ c.if-out-len.false)

pub shape_of-out : goal.shape_of-out
shape_of-out c = wrote_length c.put_index.ensures

pub returns : goal.returns
returns c = let j = c.judge-j in let e = c.if-j-ne0.false in write_done j.result j.ensures e _ _ _ c.if-out-len.false c.put_index.ensures
