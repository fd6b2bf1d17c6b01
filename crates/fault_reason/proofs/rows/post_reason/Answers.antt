use Rattle.fault_reason.proofs.Laws.{post_place, post_who, post_ports, post_alone}
use borrow.Author.Rules.{rules}
use Rattle.fault_reason.proofs.rows.post_reason.Goals as goal

pub returns-then-is_due : goal.returns-then-is_due
returns-then-is_due c =
    let a = c.args in
    let q = c.is_inside in
    let p = c.is_player in
    let k = c.slot in
    let d = c.is_due in
    post_ports (record { major = 0; minor = 0; patch = 0 }) a.file.now a.span a.m a.w q.result q.ensures c.if-is_inside.true p.result p.ensures c.if-is_player.true k.result k.ensures d.result d.ensures c.if-is_due.true

pub returns-then-is_player : goal.returns-then-is_player
returns-then-is_player c =
    let a = c.args in
    let q = c.is_inside in
    let p = c.is_player in
    let k = c.slot in
    let d = c.is_due in
    post_alone (record { major = 0; minor = 0; patch = 0 }) a.file.now a.span a.m a.w q.result q.ensures c.if-is_inside.true p.result p.ensures c.if-is_player.true k.result k.ensures d.result d.ensures c.if-is_due.false

pub returns-then-is_inside : goal.returns-then-is_inside
returns-then-is_inside c =
    let a = c.args in
    let q = c.is_inside in
    let p = c.is_player in
    post_who (record { major = 0; minor = 0; patch = 0 }) a.file.now a.span a.m a.w q.result q.ensures c.if-is_inside.true p.result p.ensures c.if-is_player.false c.who_reason.result c.who_reason.ensures

pub returns : goal.returns
returns c =
    let a = c.args in
    let q = c.is_inside in
    post_place (record { major = 0; minor = 0; patch = 0 }) a.file.now a.span a.m a.w q.result q.ensures c.if-is_inside.false c.place_reason.result c.place_reason.ensures
