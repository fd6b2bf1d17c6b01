use native.Mathlib.Omega.{arith}
use Rattle.players.proofs.PresenceLaws.{marked_all, marked_past, marked_bit}
use Rattle.players.proofs.presence.is_present.Goals as goal

pub returns-then-len-eq0 : goal.returns-then-len-eq0
returns-then-len-eq0 c = marked_all _ _ _ _ c.if-len-eq0.true

pub returns-then-presence-at : goal.returns-then-presence-at
returns-then-presence-at c = marked_past _ _ _ _ c.if-len-eq0.false (omega arith)

pub returns-then-presence-at-2 : goal.returns-then-presence-at-2
returns-then-presence-at-2 c = marked_past _ _ _ _ c.if-len-eq0.false (omega arith)

pub returns : goal.returns
returns c = marked_bit _ _ _ _ c.if-len-eq0.false
