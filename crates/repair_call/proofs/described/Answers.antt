use borrow.Author.Rules.{rules}
use native.Mathlib.Omega.{arith}
use Rattle.repair_call.proofs.Laws.{told_bounds, room_len, described_is}
use Rattle.repair_call.proofs.described.Goals as goal

pub pass_events-kept-requires : goal.pass_events-kept-requires
pass_events-kept-requires c =
    let (a, b, d, e, f, g) = told_bounds c.args.file.now c.args.spans.now c.args.first c.args.p c.requires in
    (b, d, g)

pub pass_events-rest-requires : goal.pass_events-rest-requires
pass_events-rest-requires c =
    let (a, b, d, e, f, g) = told_bounds c.args.file.now c.args.spans.now c.args.first c.args.p c.requires in
    (d, omega arith, g)

pub stands_behind-b-requires : goal.stands_behind-b-requires
stands_behind-b-requires c =
    (told_bounds c.args.file.now c.args.spans.now c.args.first c.args.p c.requires).2

pub get_be-said-requires : goal.get_be-said-requires
get_be-said-requires c =
    let (a, b, d, e, f, g) = told_bounds c.args.file.now c.args.spans.now c.args.first c.args.p c.requires in
    (omega arith, omega arith)

pub overflow_sub-result : goal.overflow_sub-result
overflow_sub-result c =
    let (a, b, d, e, f, g) = told_bounds c.args.file.now c.args.spans.now c.args.first c.args.p c.requires in
    omega arith

pub overflow_cast-result : goal.overflow_cast-result
overflow_cast-result c =
    let (a, b, d, e, f, g) = told_bounds c.args.file.now c.args.spans.now c.args.first c.args.p c.requires in
    record { fits = omega arith }

pub overflow_add-result : goal.overflow_add-result
overflow_add-result c =
    let (a, b, d, e, f, g) = told_bounds c.args.file.now c.args.spans.now c.args.first c.args.p c.requires in
    let x = c.stands_behind-b in
    let n = room_len c.args.file.now c.args.p d _ x.result x.ensures in
    omega (arith, c.well_formed)

pub overflow_sub-result-2 : goal.overflow_sub-result-2
overflow_sub-result-2 c =
    let (a, b, d, e, f, g) = told_bounds c.args.file.now c.args.spans.now c.args.first c.args.p c.requires in
    omega arith

pub returns : goal.returns
returns c =
    let a = c.args in
    let k = c.pass_events-kept in
    let r = c.pass_events-rest in
    let b = c.stands_behind-b in
    described_is a.file.now a.spans.now a.first a.p c.requires k.result r.result k.ensures r.ensures b.result b.ensures c.get_be-said.result c.get_be-said.ensures
