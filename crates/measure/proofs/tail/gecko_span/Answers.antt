use Prim.Native.Nat.{◌≤◌, ◌+◌, ◌*◌}
use mathlib.Core.Path.{◌≡◌}
use native.Mathlib.Omega.{arith}
use borrow.Author.Rules.{rules}
use Rattle.read_judge.specs.Found.{gecko_span}
use Rattle.measure.proofs.Tails.{span_from, span_all, span_here_lem, span_next, span_none}
use Rattle.measure.proofs.tail.gecko_span.Goals as goal

pub loop-left-init : goal.loop-left-init
loop-left-init c = (omega arith, span_all c.args.file.now c.args.first c.requires.0)

pub returns-then-file-at-eq-GECKO_CODES : goal.returns-then-file-at-eq-GECKO_CODES
returns-then-file-at-eq-GECKO_CODES c =
    let l = c.loop-left in
    span_here_lem _ _ l.at l.left c.loop-left-test.true l.invariant.1 _ c.if-file-at-eq-GECKO_CODES.true c.get_be.ensures

pub loop-left-preserved : goal.loop-left-preserved
loop-left-preserved c =
    let l = c.loop-left in
    (omega arith, span_next _ _ l.at l.left c.loop-left-test.true l.invariant.1 c.if-file-at-eq-GECKO_CODES.false)

pub returns : goal.returns
returns c = span_none _ _ c.loop-left.at c.loop-left.left (omega arith) c.loop-left.invariant.1

pub get_be-requires : goal.get_be-requires
get_be-requires c = (omega arith, omega arith)
