-- The start block's length.
-- Assumes nothing.
use Rattle.std.specs.Prelude.{ℕ, cond, List, [], ◌∷◌}
use Rattle.format.specs.declared.version.Version.{Version}
use Rattle.start.specs.declared.gate.Gate.{Gate}
use Rattle.start.specs.Gate.{gates, reaches}

-- that of the first gate that v reaches; 320 before them all
unfoldable pub reached : Version → List Gate → ℕ
reached v [] = 320
reached v (g ∷ gs) = cond (reaches v g) g.bytes (reached v gs)

unfoldable pub length_of : Version → ℕ
length_of v = reached v gates
