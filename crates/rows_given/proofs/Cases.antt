-- Cells that are given, computed from the definitions: too wide, too many, too few, and of a version that lacks them; and marks.
-- Assumes nothing.
use mathlib.Core.Path.{◌≡◌, refl}
use mathlib.Core.List.{[], ◌∷◌}
use lib.ListN.{replicate}
use Rattle.format.specs.Mark.{flag_of}
use Rattle.wire.specs.Wire.{tabulate}
use Rattle.format.specs.Version.{version, above, gte_of}
use Rattle.layout.specs.Columns.{columns_of, chosen}
use Rattle.layout.specs.declared.columns.Family.TheVariants as family
use Rattle.rows.specs.Cells.{first_cells}
use Rattle.rows_given.specs.Given.{given_cells}

given : given_cells family.StadiumTransformation (version 3 18 0) (0x1_0002 ∷ 3 ∷ 9 ∷ []) ≡ 2 ∷ 3 ∷ replicate 30 0
unfolding given_cells first_cells tabulate columns_of chosen above gte_of
given = refl

given_few : given_cells family.StadiumTransformation (version 3 18 0) (5 ∷ []) ≡ 5 ∷ replicate 31 0
unfolding given_cells first_cells tabulate columns_of chosen above gte_of
given_few = refl

given_none : given_cells family.StadiumTransformation (version 3 17 0) (5 ∷ 6 ∷ []) ≡ replicate 32 0
unfolding given_cells first_cells tabulate columns_of chosen above gte_of
given_none = refl

given_marks : (flag_of 0 ≡ 0) × (flag_of 1 ≡ 1) × (flag_of 256 ≡ 1)
given_marks = (refl, refl, refl)
