use mathlib.Core.Path.{sym, ◌∙◌}
use Rattle.newer_places.proofs.Scans.{seat_player, seat_other}
use borrow.Author.Rules.{rules}
use Rattle.newer_places.proofs.scan.is_seat.Reads as reads
use Rattle.newer_places.proofs.scan.is_seat.Lts as lts
use Rattle.read_places.proofs.scan.is_players.Reads as is-players-reads
use Rattle.newer_places.proofs.scan.is_seat.Goals as goal

pub returns-then-is_players : goal.returns-then-is_players
returns-then-is_players c = seat_player _ (sym c.is_players.ensures ∙ c.if-is_players.true)

pub returns : goal.returns
returns c = seat_other _ (sym c.is_players.ensures ∙ c.if-is_players.false)
