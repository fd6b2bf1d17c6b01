use Rattle.read_scan.proofs.Counting.{pre_of_frame, pre_begins}
use Rattle.read_scan.proofs.tally.with_pre.Goals as goal

pub returns-then-is_inside : goal.returns-then-is_inside
returns-then-is_inside c =
    let a = c.args in
    let i = c.is_inside in
    pre_of_frame a.t a.m a.w i.result i.ensures c.if-is_inside.true c.with_player.result c.with_player.ensures

pub returns : goal.returns
returns c =
    let a = c.args in
    let i = c.is_inside in
    let b = c.begun in
    pre_begins a.t a.m a.w i.result i.ensures c.if-is_inside.false b.result c.with_player-2.result b.ensures c.with_player-2.ensures
