-- The line of the smallest replay: `1 0 whole`. By `one_line` there is no other.
-- Assumes nothing.
use mathlib.Core.Path.{refl}
use mathlib.Core.Bool.{true}
use mathlib.Core.List.{[], ◌∷◌}
use native.Mathlib.Omega.{arith}
use lib.Dec.{lit<, lit≤}
use Rattle.de.specs.declared.Walked.TheVariants.{Done}
use Rattle.walk_line.specs.Line.{Decimal, pair, Line, done}

one : Decimal 1 (0x31 ∷ [])
one = record { count = 1; fewest = (lit≤ tt, lit< tt, λ h. absurd (omega arith)); digits_are = refl }

nought : Decimal 0 (0x30 ∷ [])
nought = record { count = 1; fewest = (lit≤ tt, lit< tt, λ h. absurd (omega arith)); digits_are = refl }

case_1 : Line (Done 1 0 true 350) (0x31 ∷ 0x20 ∷ 0x30 ∷ 0x20 ∷ 0x77 ∷ 0x68 ∷ 0x6f ∷ 0x6c ∷ 0x65 ∷ 0x0a ∷ [])
case_1 = done (pair one nought)
