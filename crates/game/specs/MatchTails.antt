-- What stands after the zero that ends a match id, as a number in a match.
-- Assumes nothing.
use Rattle.std.specs.Prelude.{ℕ, cond}
use Rattle.format.specs.Mark.{yes}
use Rattle.game.specs.declared.start.MatchTail.{MatchTail}
use Rattle.game.specs.declared.start.MatchTail.TheVariants.{Cleared, Kept}

abbrev pub match_tail_number : MatchTail → ℕ
match_tail_number Cleared = 0
match_tail_number Kept = 1

-- 0 is cleared, every other number kept
abbrev pub match_tail_of : ℕ → MatchTail
match_tail_of number = cond (yes number) Kept Cleared
