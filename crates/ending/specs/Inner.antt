-- What functions promise each other of the end.
-- Assumes nothing.
use Rattle.std.specs.Prelude.{ℕ, cond}
use Rattle.format.specs.Mark.{yes}
use Rattle.game.specs.declared.end.End.{End}

-- how many ends are written
abbrev pub end_count : End → ℕ → ℕ
end_count e double = cond (yes e.given) (cond (yes double) 2 1) 0
