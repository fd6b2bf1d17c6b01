-- What the payload of an end says.
-- Assumes nothing.
use Rattle.std.specs.Prelude.{ℕ, cond, List, [], ◌∷◌, eqb, get_or}
use Rattle.format.specs.Version.{has_initiator, has_placements}
use Rattle.format.specs.declared.version.Version.{Version}
use Rattle.game.specs.declared.end.End.{End}

-- a placement: FF is none
unfoldable pub mark_by : ℕ → ℕ
mark_by b = cond (eqb b 0xFF) 0 1

unfoldable pub value_by : ℕ → ℕ
value_by b = cond (eqb b 0xFF) 0 b

-- of the four placements, which stand behind method and initiator
abbrev pub of_four : (ℕ → ℕ) → List ℕ → List ℕ
of_four f p = f (get_or p 2 0) ∷ f (get_or p 3 0) ∷ f (get_or p 4 0) ∷ f (get_or p 5 0) ∷ []

abbrev pub four_zeros : List ℕ
four_zeros = 0 ∷ 0 ∷ 0 ∷ 0 ∷ []

-- who ended the game, FF for nobody; who was placed, and where
unfoldable pub initiator_in : Version → List ℕ → ℕ
initiator_in v p = cond (has_initiator v) (get_or p 1 0) 0xFF

unfoldable pub placed_in : Version → List ℕ → List ℕ
placed_in v p = cond (has_placements v) (of_four mark_by p) four_zeros

unfoldable pub placements_in : Version → List ℕ → List ℕ
placements_in v p = cond (has_placements v) (of_four value_by p) four_zeros

unfoldable pub end_in : Version → List ℕ → End
end_in v p = record { given = 1; method = get_or p 0 0; initiator = initiator_in v p; placed = placed_in v p; placements = placements_in v p }
