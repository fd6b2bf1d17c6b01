-- `rows_run::run::put_run` meets its contract: of a player's family and of the others.
use mathlib.Core.Path.{refl, sym, ◌∙◌}
use Rattle.game.specs.Held.{cells_in}
use Rattle.rows_run.proofs.Outcomes.{plain_room, plain_wrote}
use Rattle.rows_run.proofs.run.put_run.Goals as goal

pub put_plain_run-requires : goal.put_plain_run-requires
put_plain_run-requires c =
    let s = cells_in c.args.lent.now.cells in
    let plain = sym c.of_players.ensures ∙ c.if-of_players.false in
    rw c.of-store.ensures (plain, c.requires.0, plain_room _ s _ _ _ _ refl _ _ _ plain c.requires.1)

pub returns : goal.returns
returns c =
    let s = cells_in c.args.lent.now.cells in
    plain_wrote _ s _ _ _ _ refl _ _ _ (sym c.of_players.ensures ∙ c.if-of_players.false) (rw c.of-store.ensures at c.put_plain_run.ensures)
