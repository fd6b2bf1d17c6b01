use Rattle.layout.proofs.Laws.{arm}
use Rattle.grammar.specs.WellFormed.{may_precede}
use Rattle.read_order.specs.Inner.{order_of}
use Rattle.read_order.proofs.Laws.{before_rising}
use Rattle.read_order.proofs.due.stands_before.Goals as goal

pub returns-in-Ascending : goal.returns-in-Ascending
returns-in-Ascending c = let a = c.args in arm (λ o. may_precede (order_of o) a.right a.j a.k) c.in-Ascending.is (before_rising a.right a.j a.k)

pub returns-in-Anyhow : goal.returns-in-Anyhow
returns-in-Anyhow c = let a = c.args in arm (λ o. may_precede (order_of o) a.right a.j a.k) c.in-Anyhow.is c.stands_anyhow.ensures
