-- What the payload table says of codes, and the bytes of their blocks.
-- Assumes nothing.
use Rattle.std.specs.Prelude.{ℕ, ◌+◌, ◌%◌, Bool, cond, eqb}
use Rattle.format.specs.Version.{has_codes}
use Rattle.format.specs.declared.version.Version.{Version}

-- codes are listed with the actual size's two low bytes, from 3.3; where they are not listed, there are no blocks. A span is one more than the size, or 0
unfoldable pub listed_right : Version → ℕ → ℕ → ℕ → Bool
listed_right v span blocks actual = cond (has_codes v) (cond (eqb span 0) (eqb blocks 0) (eqb span (1 + actual % 65536))) (eqb blocks 0)
