use mathlib.Core.Path.{refl}
use Prim.Native.Nat.{◌+◌}
use native.Mathlib.Omega.{arith}
use Rattle.read_order.specs.Inner.{order_of}
use Rattle.read_scan.proofs.Same.{big}
use Rattle.read_scan.proofs.Turns.{ready_if, not_fits, not_whole, not_orderly, size_of, gone}
use Rattle.read_scan.proofs.event.try_event.Goals as goal

pub word_at-w-requires : goal.word_at-w-requires
word_at-w-requires c =
    let a = c.args in
    let h = c.requires.0 in
    let f = c.fits in
    let o = order_of a.order in
    let s = size_of a.v a.n a.family f.result f.ensures c.if-fits.true in
    omega (arith, s, big a.family a.v, h.long, h.under)

pub moved-stage-requires : goal.moved-stage-requires
moved-stage-requires c =
    let a = c.args in
    let h = c.requires.0 in
    let f = c.fits in
    let o = order_of a.order in
    let s = size_of a.v a.n a.family f.result f.ensures c.if-fits.true in
    let w = c.word_at-w in
    let y = c.may in (
      ready_if a.v o a.file.now a.span a.m w.result a.at (a.at + a.n) h.held h.span_is (omega (arith, h.long, h.under)) w.ensures a.family
          (omega (arith, s))
          y.result y.ensures c.if-may.true,
      omega (arith, h.held.inside),
    )

pub returns-then-may : goal.returns-then-may
returns-then-may c =
    let a = c.args in
    let h = c.requires.0 in
    let f = c.fits in
    let o = order_of a.order in
    let w = c.word_at-w in
    let y = c.may in
    gone a.v o a.file.now a.span a.stop a.m a.at a.n a.family f.result f.ensures c.if-fits.true h.under
    (omega (arith, c.if-n-stop.true, h.under)) w.result w.ensures y.result y.ensures c.if-may.true (a.at + a.n) refl h c.moved-stage.result c.moved-stage.ensures

pub returns-else-may : goal.returns-else-may
returns-else-may c =
    let a = c.args in
    let h = c.requires.0 in
    let f = c.fits in
    let o = order_of a.order in
    let w = c.word_at-w in
    let y = c.may in
    not_orderly a.v o a.file.now a.span a.stop a.m a.at a.n a.family f.result f.ensures c.if-fits.true h.under
    (omega arith) w.result w.ensures y.result y.ensures c.if-may.false

pub returns-else-n-stop : goal.returns-else-n-stop
returns-else-n-stop c =
    let a = c.args in
    let h = c.requires.0 in
    let f = c.fits in
    let o = order_of a.order in
    not_whole a.v o a.file.now a.span a.stop a.m a.at a.n a.family f.result f.ensures c.if-fits.true h.under (omega arith)

pub returns-else-fits : goal.returns-else-fits
returns-else-fits c =
    let a = c.args in
    let h = c.requires.0 in
    let f = c.fits in
    let o = order_of a.order in
    not_fits a.v o a.file.now a.span a.stop a.m a.at a.n a.family f.result f.ensures c.if-fits.false
