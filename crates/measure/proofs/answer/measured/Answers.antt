use native.Mathlib.Omega.{arith}
use borrow.Author.Rules.{rules}
use Rattle.measure.proofs.Answers.{small, places_room, measured_is}
use Rattle.measure.proofs.answer.measured.Goals as goal

pub frames_in-requires : goal.frames_in-requires
frames_in-requires c = small _ _ _ _ c.requires.1

pub overflow_cast-result : goal.overflow_cast-result
overflow_cast-result c = record { fits = omega (arith, (small _ _ _ _ c.requires.1).actual) }

pub lengths_in-requires : goal.lengths_in-requires
lengths_in-requires c = small _ _ _ _ c.requires.1

pub places-requires : goal.places-requires
places-requires c = places_room _ _ _ _ c.requires.1

pub returns : goal.returns
returns c =
    λ a. measured_is _ _ _ _ a _ c.requires.0 _ c.frames_in.ensures _ c.codes_by.ensures _ c.places.ensures _ c.partly_by.ensures _ c.lengths_in.ensures
