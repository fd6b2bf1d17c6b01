use mathlib.Core.Path.{◌∙◌}
use borrow.Author.Tests.{eqb-true}
use lib.ListN.{length}
use Rattle.format.proofs.Versions.{no_way}
use Rattle.fault_scan.proofs.Laws.{end_is, end_not}
use borrow.Author.Rules.{rules}
use Rattle.fault_scan.proofs.around.is_end.Goals as goal

pub returns-then-code-eq-GAME_END : goal.returns-then-code-eq-GAME_END
returns-then-code-eq-GAME_END c = (end_is _ _ _ c.if-code-eq-GAME_END.true c.end_size-n.result c.end_size-n.ensures.0, λ q. eqb-true (length c.args.p.now) c.end_size-n.result q ∙ c.end_size-n.ensures.0)

pub returns : goal.returns
returns c = (end_not _ _ _ c.if-code-eq-GAME_END.false, λ q. no_way q)
