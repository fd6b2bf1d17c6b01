use Rattle.fault_reason.proofs.Laws.{pre_place, pre_who, pre_twice, pre_again, pre_ports}
use borrow.Author.Rules.{rules}
use Rattle.fault_reason.proofs.rows.pre_reason.Goals as goal

pub returns-then-is_due : goal.returns-then-is_due
returns-then-is_due c =
    let a = c.args in
    let q = c.pre_stands in
    let p = c.is_player in
    let k = c.slot-k in
    let d = c.is_due in
    pre_twice a.v a.file.now a.span a.m a.w q.result q.ensures c.if-pre_stands.true p.result p.ensures c.if-is_player.true k.result k.ensures d.result d.ensures c.if-is_due.true

pub returns-then-may_come : goal.returns-then-may_come
returns-then-may_come c =
    let a = c.args in
    let q = c.pre_stands in
    let p = c.is_player in
    let k = c.slot-k in
    let d = c.is_due in
    let m = c.may_come in
    pre_again a.v a.file.now a.span a.m a.w q.result q.ensures c.if-pre_stands.true p.result p.ensures c.if-is_player.true k.result k.ensures d.result d.ensures c.if-is_due.false m.result m.ensures c.if-may_come.true

pub returns-then-is_player : goal.returns-then-is_player
returns-then-is_player c =
    let a = c.args in
    let q = c.pre_stands in
    let p = c.is_player in
    let k = c.slot-k in
    let d = c.is_due in
    let m = c.may_come in
    pre_ports a.v a.file.now a.span a.m a.w q.result q.ensures c.if-pre_stands.true p.result p.ensures c.if-is_player.true k.result k.ensures d.result d.ensures c.if-is_due.false m.result m.ensures c.if-may_come.false

pub returns-then-pre_stands : goal.returns-then-pre_stands
returns-then-pre_stands c =
    let a = c.args in
    let q = c.pre_stands in
    let p = c.is_player in
    pre_who a.v a.file.now a.span a.m a.w q.result q.ensures c.if-pre_stands.true p.result p.ensures c.if-is_player.false c.who_reason.result c.who_reason.ensures

pub returns : goal.returns
returns c =
    let a = c.args in
    let q = c.pre_stands in
    pre_place a.v a.file.now a.span a.m a.w q.result q.ensures c.if-pre_stands.false c.place_reason.result c.place_reason.ensures
