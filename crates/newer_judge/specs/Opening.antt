-- What `measure` and `read` refuse before there is a replay: as the check does, but the version only from major 4 on (2026-12).
-- Assumes nothing.
use Rattle.std.specs.Prelude.{ℕ, List, [], ◌∷◌, eqb, ltb}
use Rattle.format.specs.Refusal.{refuse, lowest}
use Rattle.de.specs.Walk.{walk_of}
use Rattle.de.specs.Numbers.{walk_numbers}
use Rattle.de.specs.Cut.{events_read}
use Rattle.read_judge.specs.Found.{opens_wrong, version_of}

-- the walk's refusal, 14 to 17; 19 for the first event; 1 for the version
unfoldable pub opening_refusal : List ℕ → ℕ
opening_refusal f =
    let w = walk_numbers (walk_of f) in
    lowest (refuse w.number (eqb w.kind 1) ∷ refuse 19 (opens_wrong (events_read f)) ∷ refuse 1 (ltb 3 (version_of f).major) ∷ [])
