use native.Mathlib.Omega.{arith}
use borrow.Author.Tests.{ltb-true}
use Rattle.format.proofs.Versions.{no_way}
use Rattle.newer_ends.proofs.Tests.{end_none, end_other, end_as, end_inside}
use borrow.Author.Rules.{rules}
use Rattle.newer_ends.proofs.end.is_end.Goals as goal

pub returns-then-file-at-eq-GAME_END : goal.returns-then-file-at-eq-GAME_END
returns-then-file-at-eq-GAME_END c =
    let l = c.if-at-stop.true in
    let n = c.end_size in
    let k = c.span_of in (
      end_as _ _ _ _ _ l c.if-file-at-eq-GAME_END.true _ _ n.ensures.0 k.ensures.0,
      λ q. (omega (arith, ltb-true n.result k.result q, n.ensures.0, k.ensures.0), end_inside c.args.v _ _ _ _ l c.requires c.if-file-at-eq-GAME_END.true),
    )

pub returns-else-file-at-eq-GAME_END : goal.returns-else-file-at-eq-GAME_END
returns-else-file-at-eq-GAME_END c = (end_other _ _ _ _ _ c.if-at-stop.true c.if-file-at-eq-GAME_END.false, λ q. no_way q)

pub returns-else-at-stop : goal.returns-else-at-stop
returns-else-at-stop c = (end_none _ _ _ _ _ c.if-at-stop.false, λ q. no_way q)
