use borrow.Author.Rules.{rules}
use mathlib.Core.Path.{sym, ap}
use mathlib.Core.List.{◌++◌}
use native.Mathlib.Omega.{arith}
use lib.ListN.{set}
use Rattle.measure.proofs.LengthLaws.{with_column, without_column, port_there, port_none, listing_as}
use Rattle.measure.proofs.lengths.with_port.Goals as goal

pub returns-then-is_marked-follows : goal.returns-then-is_marked-follows
returns-then-is_marked-follows c =
    let a = c.args in
    let pre = c.requires in
    let f = c.is_marked-follows in
    let l = c.is_marked in
    let is = port_there a.slots a.bytes a.n l.result f.result l.ensures f.ensures c.if-is_marked-follows.true in
    (omega (arith, pre.1), λ xs h. listing_as (ap (λ ys. xs ++ ys) (sym is)) (with_column xs a.p _ _ h (omega (arith, pre.0, pre.1)) (ap (λ x. set a.p.ports a.p.count x) c.port_column-column.ensures)))

pub returns : goal.returns
returns c =
    let a = c.args in
    let f = c.is_marked-follows in
    let l = c.is_marked in
    let is = port_none a.slots a.bytes a.n l.result f.result l.ensures f.ensures c.if-is_marked-follows.false in
    (omega (arith, c.requires.1), λ xs h. listing_as (ap (λ ys. xs ++ ys) (sym is)) (without_column xs a.p h))
