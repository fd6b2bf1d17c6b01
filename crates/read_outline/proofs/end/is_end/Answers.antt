use native.Mathlib.Omega.{arith}
use Rattle.format.proofs.Versions.{no_way}
use Rattle.read_outline.proofs.Laws.{here_short, here_other, here_as, end_size_as}
use Rattle.read_outline.proofs.end.is_end.Goals as goal

pub returns-then-stop-at : goal.returns-then-stop-at
returns-then-stop-at c =
    let a = c.args in
    (here_short a.v a.file.now a.spans.now a.stop a.at _ (end_size_as a.v _ c.end_size-n.ensures.0) (omega arith), λ q. no_way q)

pub returns-then-file-at-ne-GAME_END : goal.returns-then-file-at-ne-GAME_END
returns-then-file-at-ne-GAME_END c =
    let a = c.args in
    (here_other a.v a.file.now a.spans.now a.stop a.at _ (end_size_as a.v _ c.end_size-n.ensures.0) (omega arith) c.if-file-at-ne-GAME_END.true, λ q. no_way q)

pub returns : goal.returns
returns c =
    let a = c.args in (
      here_as a.v a.file.now a.spans.now a.stop a.at _ (end_size_as a.v _ c.end_size-n.ensures.0) (omega arith) c.if-file-at-ne-GAME_END.false
          c.span_of.result c.span_of.ensures.0,
      λ q. omega arith,
    )
