-- `events::middle::put_between` meets its contract: a frame without such rows has no bytes there.
use Rattle.events.proofs.Laws.{middle_none, wrote_nothing}
use Rattle.events.proofs.middle.put_between.Goals as goal

pub returns-then-is_plain : goal.returns-then-is_plain
returns-then-is_plain c = let none = c.is_plain.ensures c.if-is_plain.true in wrote_nothing (middle_none _ _ _ _ _ _ _ _ none.0 none.1 none.2 none.3)
