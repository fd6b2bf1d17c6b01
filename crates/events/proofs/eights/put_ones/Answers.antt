use mathlib.Core.Path.{sym}
use Prim.Native.Nat.{◌+◌}
use native.Mathlib.Omega.{arith}
use Rattle.spread.proofs.Laws.{rooms_as, sown_as, sown_none}
use Rattle.events.proofs.Laws.{only_in}
use Rattle.events.proofs.EightLaws.{ones_given, ones_none}
use Rattle.events.proofs.eights.put_ones.Goals as goal

pub put_eight_rows-requires : goal.put_eight_rows-requires
put_eight_rows-requires c =
    let a = c.args in
    let q = c.requires.0 in
    let on = c.if-m.true in
    (q.few, q.total, only_in a.m a.cells.now (a.i + 7) q (omega arith), c.requires.2, c.requires.3, rooms_as _ (λ t h. ones_given a.m a.cells.now a.ids.now a.i on t) c.requires.4)

pub returns-then-m : goal.returns-then-m
returns-then-m c =
    let a = c.args in
    let on = c.if-m.true in
    sown_as _ (λ t h. sym (ones_given a.m a.cells.now a.ids.now a.i on t)) c.put_eight_rows.ensures

pub returns : goal.returns
returns c =
    let a = c.args in
    sown_none _ _ _ (λ t h. ones_none a.m a.cells.now a.ids.now a.i c.if-m.false t)
