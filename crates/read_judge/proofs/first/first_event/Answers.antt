use borrow.Author.Rules.{rules}
use native.Mathlib.Omega.{arith}
use Rattle.read_judge.proofs.StartLaws.{no_room, other_code, too_short_lem, not_whole, opens}
use Rattle.read_judge.proofs.first.first_event.Goals as goal

pub returns-then-span-stop : goal.returns-then-span-stop
returns-then-span-stop c =
    let a = c.args in
    let span = c.span_of-span in
    opens a.file.now a.spans.now a.first a.stop (omega arith) c.if-file-first-eq-GAME_START.true span.result span.ensures.0 c.if-span-ge5.true c.if-span-stop.true c.new-version.result c.new-version.ensures

pub returns-else-span-stop : goal.returns-else-span-stop
returns-else-span-stop c =
    let a = c.args in
    let span = c.span_of-span in
    not_whole a.file.now a.spans.now a.first a.stop (omega arith) c.if-file-first-eq-GAME_START.true span.result span.ensures.0 c.if-span-ge5.true (omega arith)

pub returns-else-span-ge5 : goal.returns-else-span-ge5
returns-else-span-ge5 c =
    let a = c.args in
    let span = c.span_of-span in
    too_short_lem a.file.now a.spans.now a.first a.stop (omega arith) c.if-file-first-eq-GAME_START.true span.result span.ensures.0 (omega arith)

pub returns-else-file-first-eq-GAME_START : goal.returns-else-file-first-eq-GAME_START
returns-else-file-first-eq-GAME_START c =
    let a = c.args in
    other_code a.file.now a.spans.now a.first a.stop (omega arith) c.if-file-first-eq-GAME_START.false

pub returns-else-first-stop : goal.returns-else-first-stop
returns-else-first-stop c = let a = c.args in no_room a.file.now a.spans.now a.first a.stop (omega arith)
