use mathlib.Core.Path.{◌≡◌, ◌∙◌}
use borrow.Author.Rules.{rules}
use mathlib.Core.List.{[], ◌∷◌}
use Prim.Native.Nat.{ℕ}
use Rattle.game.specs.declared.start.Seat.{Seat}
use Rattle.read_start.specs.Start.{seat_in}
use Rattle.read_start.proofs.Parts.{four_ranged}
use Rattle.read_start.proofs.seat.seats_in.Goals as goal

pub returns : goal.returns
returns c =
    let a = c.args in
    let f : ℕ → Seat = λ n. seat_in a.v a.block.now n in
    let read : c.seat_in.result ∷ c.seat_in-2.result ∷ c.seat_in-3.result ∷ c.seat_in-4.result ∷ [] ≡ f 0 ∷ f 1 ∷ f 2 ∷ f 3 ∷ []
    = λ i. c.seat_in.ensures i ∷ c.seat_in-2.ensures i ∷ c.seat_in-3.ensures i ∷ c.seat_in-4.ensures i ∷ [] in
    read ∙ four_ranged f
