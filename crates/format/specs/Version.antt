-- Versions: three numbers, and what is compared.
-- Assumes nothing.
use Rattle.std.specs.Prelude.{ℕ, Bool, true, false, cond, ltb, leb, eqb}
use Rattle.format.specs.declared.version.Version.{Version}

abbrev pub version : ℕ → ℕ → ℕ → Version
version a b c = record { major = a; minor = b; patch = c }

-- the first number decides, unless both are the same; then the rest does
unfoldable pub above : ℕ → ℕ → Bool → Bool
above a b rest = cond (ltb b a) true (cond (eqb a b) rest false)

-- v is major.minor or newer: its major is above, or the same with a minor that is not below
unfoldable pub gte_of : Version → ℕ → ℕ → Bool
gte_of v major minor = above v.major major (leb minor v.minor)

-- codes may be given from 3.3 on; an end says who ended the game from 2.0 on, and the placements from 3.13 on
abbrev pub has_codes : Version → Bool
has_codes v = gte_of v 3 3

abbrev pub has_initiator : Version → Bool
has_initiator v = gte_of v 2 0

abbrev pub has_placements : Version → Bool
has_placements v = gte_of v 3 13

-- v is not above 3.18.0, by all three numbers
unfoldable pub accepted_of : Version → Bool
accepted_of v = above 3 v.major (above 18 v.minor (leb v.patch 0))
