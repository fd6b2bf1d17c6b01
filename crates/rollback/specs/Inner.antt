-- What the functions promise each other: the order in which frames have their turn.
-- Assumes nothing.
use Rattle.std.specs.Prelude.{ℕ, ◌+◌, ◌-◌}
use Rattle.rollback.specs.declared.frame.Rollbacks.{Rollbacks}
use Rattle.rollback.specs.declared.frame.Rollbacks.TheVariants.{ExceptFirst, ExceptLast}

-- the frame after k others, of so many: from the first on, or from the last back
abbrev pub turn_of : Rollbacks → ℕ → ℕ → ℕ
turn_of ExceptFirst frames k = k
turn_of ExceptLast frames k = frames - (k + 1)
