use borrow.Author.Rules.{rules}
use native.Mathlib.Omega.{arith}
use Rattle.head.proofs.Filled.{stop_within}
use Rattle.check_file.proofs.Laws.{all_sound, tail_wrong, answer_as}
use Rattle.check_file.proofs.check_tail.Goals as goal

pub is_tail-requires : goal.is_tail-requires
is_tail-requires c = omega (arith, c.requires.1, stop_within c.args.file.now)

pub returns-then-is_tail : goal.returns-then-is_tail
returns-then-is_tail c =
    let t = c.is_tail in
    answer_as c.args.file.now c.answered.result _ c.answered.ensures
    (all_sound c.args.file.now c.requires.0 c.args.stop c.requires.1 t.result t.ensures (λ i. (c.shared_slice_known-1.given i).fits) c.if-is_tail.true)

pub returns : goal.returns
returns c =
    let t = c.is_tail in
    answer_as c.args.file.now c.answered-2.result _ c.answered-2.ensures
    (tail_wrong c.args.file.now c.requires.0 c.args.stop c.requires.1 t.result t.ensures c.if-is_tail.false)
