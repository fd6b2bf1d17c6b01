use Rattle.places.proofs.Laws.{never, bare_all}
use Rattle.places.proofs.table.is_calm.Goals as goal

pub is_bare-requires : goal.is_bare-requires
is_bare-requires c = (c.requires.0.item, c.requires.1, c.requires.2)

pub returns-then-not-is_bare : goal.returns-then-not-is_bare
returns-then-not-is_bare c = λ e. never e

pub is_bare-requires-2 : goal.is_bare-requires-2
is_bare-requires-2 c = (c.requires.0.fod, c.requires.1, c.requires.2)

pub returns-then-not-is_bare-2 : goal.returns-then-not-is_bare-2
returns-then-not-is_bare-2 c = λ e. never e

pub is_bare-requires-3 : goal.is_bare-requires-3
is_bare-requires-3 c = (c.requires.0.whispy, c.requires.1, c.requires.2)

pub returns-then-not-is_bare-3 : goal.returns-then-not-is_bare-3
returns-then-not-is_bare-3 c = λ e. never e

pub is_bare-requires-4 : goal.is_bare-requires-4
is_bare-requires-4 c = (c.requires.0.stadium, c.requires.1, c.requires.2)

pub returns : goal.returns
returns c =
    λ e. bare_all _ _ _ _ (c.is_bare.ensures c.if-not-is_bare.false) (c.is_bare-2.ensures c.if-not-is_bare-2.false) (c.is_bare-3.ensures c.if-not-is_bare-3.false) (c.is_bare-4.ensures e)
