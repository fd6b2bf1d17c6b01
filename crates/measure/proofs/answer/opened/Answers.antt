use native.Mathlib.Omega.{arith}
use borrow.Author.Rules.{rules}
use Rattle.measure.proofs.Answers.{small, end_room, places_room, start_room, opened_is}
use Rattle.measure.proofs.answer.opened.Goals as goal

pub places-at-requires : goal.places-at-requires
places-at-requires c = places_room _ _ _ _ c.requires.1

pub overflow_add-first : goal.overflow_add-first
overflow_add-first c = omega (arith, start_room _ _ _ _ c.requires.1)

pub start_in-start-requires : goal.start_in-start-requires
start_in-start-requires c = start_room _ _ _ _ c.requires.1

pub frames_in-requires : goal.frames_in-requires
frames_in-requires c = small _ _ _ _ c.requires.1

pub end_by-requires : goal.end_by-requires
end_by-requires c = end_room _ _ _ _ c.requires.1

pub overflow_cast-game : goal.overflow_cast-game
overflow_cast-game c = record { fits = omega (arith, (small _ _ _ _ c.requires.1).actual) }

pub returns : goal.returns
returns c =
    λ a. opened_is _ _ _ _ a _ c.requires.0 _ c.frames_in.ensures _ c.codes_by.ensures _ c.places-at.ensures _ c.partly_by.ensures _ c.start_in-start.ensures _ c.end_by.ensures _
    c.mark.ensures _ c.mark-2.ensures
