-- Looking an id up by a walk, without an index.
-- Assumes nothing.
use Rattle.std.specs.Prelude.{ℕ, zero, suc, List, map, length, get_or}
use Rattle.index_form.specs.Form.{Row}
use Rattle.index_form.specs.Find.{last_among, no_moment}
use Rattle.index_form.specs.declared.Moment.{Moment}
use Rattle.index_passes.specs.Rows.{rows_in}

-- the ids and the offsets of the FrameStarts that a walk finds
abbrev pub ids_of : List Row → List ℕ
ids_of rows = map (λ (r : Row). r.id) rows

abbrev pub row_offsets : List Row → List ℕ
row_offsets rows = map (λ (r : Row). r.offset) rows

-- the last of them with this id, counted from 1, as an answer
abbrev pub looked_at : List Row → ℕ → ℕ → Moment
looked_at rows id zero = no_moment 27
looked_at rows id (suc k) = record { refused = 0; row = k; offset = get_or (row_offsets rows) k 0; id = id }

-- what a walk over the events gives
unfoldable pub looked : List ℕ → ℕ → Moment
looked f id = looked_at (rows_in f) id (last_among (λ k. get_or (ids_of (rows_in f)) k 0) id (length (rows_in f)))
