use borrow.Author.Rules.{rules}
use Rattle.measure.proofs.answer.not_opened.Goals as goal

pub returns : goal.returns
returns c =
    let a = c.args in
    λ i. record { refused = a.number; partly = 0; offset = a.offset; game = c.no_game.ensures i; places = c.no_places.ensures i }
