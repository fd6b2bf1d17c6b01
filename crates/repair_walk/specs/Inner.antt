-- What functions promise each other: the events from a place on, counted by the table's index.
-- Assumes nothing.
use Rattle.std.specs.Prelude.{ℕ, zero, suc, ◌+◌, Bool, cond, ◌&&◌, List, ltb, leb, get_or}
use Rattle.read_scan.specs.Inner.{span_at}
use Rattle.repair_walk.specs.declared.Passed.{Passed}

abbrev pub pass : ℕ → ℕ → Passed
pass place events = record { place = place; events = events }

module _ (file spans : List ℕ) (stop : ℕ) where
  -- an event that is listed stands whole before stop
  unfoldable pub is_whole : ℕ → Bool
  is_whole at = ltb at stop && (ltb 0 (span_at spans file at) && leb (at + span_at spans file at) stop)

  -- at most k events from a place on, after n others
  unfoldable pub passed_from : ℕ → ℕ → ℕ → Passed
  passed_from zero at n = pass at n
  passed_from (suc k) at n = cond (is_whole at) (passed_from k (at + span_at spans file at) (n + 1)) (pass at n)
