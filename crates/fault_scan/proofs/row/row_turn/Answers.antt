use Prim.Native.Nat.{◌-◌, ◌^◌}
use native.Mathlib.Omega.{arith}
use Rattle.grammar.specs.WellFormed.{ascending}
use Rattle.read_scan.proofs.Counting.{under_to}
use Rattle.read_scan.proofs.Turns.{tried_as}
use Rattle.read_scan.specs.declared.event.Turn.TheVariants.{Goes, Refused}
use mathlib.Core.Path.{sym, ◌∙◌}
use Rattle.fault_scan.proofs.Laws.{row_refused, row_goes, row_same, row_wrong_lem}
use borrow.Author.Rules.{rules}
use Rattle.fault_scan.proofs.row.row_turn.Goals as goal

pub returns-in_default : goal.returns-in_default
returns-in_default c =
    let a = c.args in
    let e = c.try_event-turn in
    row_wrong_lem a.v a.file.now a.spans.now a.span a.stop a.at a.next c.requires.0 a.m a.t a.family _ c.wrong.ensures
    (row_refused a.v a.file.now a.spans.now a.span a.stop a.at a.next c.requires.0 a.m a.t a.family (tried_as a.v ascending a.file.now a.span a.stop a.m a.at (a.next - a.at) a.family e.result Refused c.in_default.is e.ensures))

pub counted-tally-requires : goal.counted-tally-requires
counted-tally-requires c =
    let a = c.args in
    let g = tried_as a.v ascending a.file.now a.span a.stop a.m a.at (a.next - a.at) a.family c.try_event-turn.result (Goes c.in-Goes.stage c.in-Goes.next c.in-Goes.word) c.in-Goes.is c.try_event-turn.ensures in
    (under_to a.t a.at (2 ^ 64 - 2) c.requires.1.under (omega (arith, c.requires.0.later, c.ranges.next.fits)), g.seated)

pub returns-then-changing : goal.returns-then-changing
returns-then-changing c =
    let a = c.args in
    let g = tried_as a.v ascending a.file.now a.span a.stop a.m a.at (a.next - a.at) a.family c.try_event-turn.result (Goes c.in-Goes.stage c.in-Goes.next c.in-Goes.word) c.in-Goes.is c.try_event-turn.ensures in
    row_goes a.v a.file.now a.spans.now a.span a.stop a.at a.next c.requires.0 a.m a.t a.family c.in-Goes.stage c.in-Goes.next c.in-Goes.word g c.counted-tally.result c.counted-tally.ensures c.requires.1.under (sym c.changing.ensures ∙ c.if-changing.true)

pub wrong-requires-2 : goal.wrong-requires-2
wrong-requires-2 c =
    let h = c.requires.0 in
    let k = c.requires.1.asked in
    (omega (arith, h.span_is), omega (arith, k.held.inside, k.under, k.long), h.later, omega (arith, h.ends, h.long))

pub returns : goal.returns
returns c =
    let a = c.args in
    let g = tried_as a.v ascending a.file.now a.span a.stop a.m a.at (a.next - a.at) a.family c.try_event-turn.result (Goes c.in-Goes.stage c.in-Goes.next c.in-Goes.word) c.in-Goes.is c.try_event-turn.ensures in
    row_wrong_lem a.v a.file.now a.spans.now a.span a.stop a.at a.next c.requires.0 a.m a.t a.family _ c.wrong-2.ensures
    (row_same a.v a.file.now a.spans.now a.span a.stop a.at a.next c.requires.0 a.m a.t a.family c.in-Goes.stage c.in-Goes.next c.in-Goes.word g c.counted-tally.result c.counted-tally.ensures (sym c.changing.ensures ∙ c.if-changing.false))
