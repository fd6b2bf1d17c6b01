use borrow.Author.Rules.{rules}
use native.Mathlib.Omega.{arith}
use Rattle.newer_judge.proofs.Steps.{too_big_lem, shows, tells_as}
use Rattle.newer_judge.proofs.judge_counts.Goals as goal

pub overflow_mul-parts : goal.overflow_mul-parts
overflow_mul-parts c =
    omega (arith, c.requires.codes_in, c.well_formed)

pub returns-then-too_many : goal.returns-then-too_many
returns-then-too_many c =
    let a = c.args in
    let g = c.input_of-f in
    let t = c.too_many in
    tells_as a.file.now c.refused.result _ c.refused.ensures
    (too_big_lem a.file.now a.first a.stop a.parts c.requires g.result g.ensures t.result t.ensures c.if-too_many.true)

pub returns : goal.returns
returns c =
    let a = c.args in
    let g = c.input_of-f in
    let t = c.too_many in
    shows a.file.now a.first a.stop a.parts c.requires g.result g.ensures t.result t.ensures c.if-too_many.false
