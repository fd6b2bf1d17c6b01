use mathlib.Core.Path.{sym, ◌∙◌}
use Rattle.read_places.proofs.Scans.{when_on, when_off}
use Rattle.read_places.proofs.scan.note.Goals as goal

pub returns-then-is_players : goal.returns-then-is_players
returns-then-is_players c = let e = sym c.is_players.ensures ∙ c.if-is_players.true in (when_on _ _ _ e, when_on _ _ _ e)

pub returns : goal.returns
returns c = let e = sym c.is_players.ensures ∙ c.if-is_players.false in (when_off _ _ _ e, when_off _ _ _ e)
