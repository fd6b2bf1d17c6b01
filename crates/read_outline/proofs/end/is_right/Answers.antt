use native.Mathlib.Omega.{arith}
use Rattle.format.proofs.Versions.{no_way}
use Rattle.read_outline.proofs.Laws.{right_not, right_as}
use Rattle.read_outline.proofs.end.is_right.Goals as goal

pub initiator_right-requires : goal.initiator_right-requires
initiator_right-requires c = omega (arith, c.is_end.ensures.1 c.if-is_end.true, c.requires)

pub returns-then-is_end : goal.returns-then-is_end
returns-then-is_end c =
    let e = c.is_end in
    let a = c.args in (
      right_as a.v a.file.now a.spans.now a.stop a.at e.result e.ensures.0 c.if-is_end.true _ c.initiator_right.ensures,
      λ q. e.ensures.1 c.if-is_end.true,
    )

pub returns : goal.returns
returns c =
    let e = c.is_end in
    let a = c.args in
    (right_not a.v a.file.now a.spans.now a.stop a.at e.result e.ensures.0 c.if-is_end.false, λ q. no_way q)
