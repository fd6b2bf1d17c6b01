use borrow.Author.Rules.{rules}
use native.Mathlib.Omega.{arith}
use Rattle.read_judge.proofs.Steps.{codes_small, too_big_lem, accepts, verdict_as}
use Rattle.read_judge.proofs.judge_counts.Goals as goal

pub overflow_mul-parts : goal.overflow_mul-parts
overflow_mul-parts c =
    omega (arith, codes_small c.args.file.now c.args.first c.args.stop c.args.parts c.requires, c.well_formed)

pub returns-then-too_many : goal.returns-then-too_many
returns-then-too_many c =
    let a = c.args in
    let g = c.input_of-f in
    let t = c.too_many in
    verdict_as a.file.now c.refused.result _ c.refused.ensures
    (too_big_lem a.file.now a.first a.stop a.parts c.requires g.result g.ensures t.result t.ensures c.if-too_many.true)

pub returns : goal.returns
returns c =
    let a = c.args in
    let g = c.input_of-f in
    let t = c.too_many in
    accepts a.file.now a.first a.stop a.parts c.requires g.result g.ensures t.result t.ensures c.if-too_many.false
