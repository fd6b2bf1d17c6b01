use borrow.Author.Rules.{rules}
use native.Mathlib.Omega.{arith}
use Rattle.read_outline.proofs.Laws.{end_size_as}
use Rattle.check_parts.proofs.Tests.{none_left, no_end, one_end, no_second, two_ends}
use Rattle.check_parts.proofs.end.ends_fill.Goals as goal

pub returns-then-at-stop : goal.returns-then-at-stop
returns-then-at-stop c = let a = c.args in none_left a.v a.file.now a.spans.now a.stop a.at c.if-at-stop.true

pub returns-then-next-stop : goal.returns-then-next-stop
returns-then-next-stop c =
    let a = c.args in
    let r = c.is_end in
    one_end a.v a.file.now a.spans.now a.stop a.at c.if-at-stop.false r.result r.ensures.0 c.if-is_end.true _ (end_size_as a.v _ c.end_size-n.ensures.0) c.if-next-stop.true

pub is_end-requires-then-is_end : goal.is_end-requires-then-is_end
is_end-requires-then-is_end c =
    let w = c.requires in
    record { under = omega (arith, c.is_end.ensures.1 c.if-is_end.true, c.end_size-n.ensures.0); long = w.long; all_codes = w.all_codes }

pub returns-then-is_end-2 : goal.returns-then-is_end-2
returns-then-is_end-2 c =
    let a = c.args in
    let r = c.is_end in
    let s = c.is_end-then-is_end in
    two_ends a.v a.file.now a.spans.now a.stop a.at c.if-at-stop.false r.result r.ensures.0 c.if-is_end.true _
    (end_size_as a.v _ c.end_size-n.ensures.0) c.if-next-stop.false s.result s.ensures.0 c.if-is_end-2.true

pub returns-else-is_end-2 : goal.returns-else-is_end-2
returns-else-is_end-2 c =
    let a = c.args in
    let r = c.is_end in
    let s = c.is_end-then-is_end in
    no_second a.v a.file.now a.spans.now a.stop a.at c.if-at-stop.false r.result r.ensures.0 c.if-is_end.true _
    (end_size_as a.v _ c.end_size-n.ensures.0) c.if-next-stop.false s.result s.ensures.0 c.if-is_end-2.false

pub returns-else-is_end : goal.returns-else-is_end
returns-else-is_end c =
    let a = c.args in
    let r = c.is_end in
    no_end a.v a.file.now a.spans.now a.stop a.at c.if-at-stop.false r.result r.ensures.0 c.if-is_end.false
