use borrow.Author.Rules.{rules}
use native.Mathlib.Omega.{arith}
use Rattle.wire.specs.Wire.{part}
use Rattle.repair_call.proofs.Laws.{own_room, brace_room, own_put, brace_put}
use Rattle.repair_call.proofs.put_repaired.Goals as goal

pub put_front-at-requires : goal.put_front-at-requires
put_front-at-requires c = c.requires.0

pub put_bytes-end-requires : goal.put_bytes-end-requires
unfolding part
put_bytes-end-requires c =
    let a = c.args in
    let w = c.put_front-at in
    own_room a.file.now a.out.now a.p a.own c.requires.0 c.requires.1 _ w.result w.ensures c.if-own.true

pub put_u8-end-requires : goal.put_u8-end-requires
put_u8-end-requires c =
    let a = c.args in
    let w = c.put_front-at in
    brace_room a.file.now a.out.now a.p a.own c.requires.0 c.requires.1 _ w.result w.ensures c.if-own.false

pub returns-then-own : goal.returns-then-own
unfolding part
returns-then-own c =
    let a = c.args in
    let w = c.put_front-at in
    own_put a.file.now a.out.now a.p a.own c.requires.0 c.requires.1 _ w.result w.ensures c.if-own.true _ c.put_bytes-end.result c.put_bytes-end.ensures

pub returns-else-own : goal.returns-else-own
returns-else-own c =
    let a = c.args in
    let w = c.put_front-at in
    brace_put a.file.now a.out.now a.p a.own c.requires.0 c.requires.1 _ w.result w.ensures c.if-own.false _ c.put_u8-end.result c.put_u8-end.ensures
