-- What functions promise each other.
-- Assumes nothing.
use Rattle.std.specs.Prelude.{ℕ, ◌-◌, Bool, ◌&&◌, ◌||◌, List, eqb, length}
use Rattle.wire.specs.Wire.{part}
use Rattle.map_reader.specs.Answer.{whole_map}
use Rattle.measure.specs.Game.{tail_kind}
use Rattle.check_file.specs.declared.Checked.{Checked}

abbrev pub answer : ℕ → ℕ → Checked
answer number offset = record { refused = number; offset = offset }

-- a body is a map's
unfoldable pub is_body : List ℕ → Bool
is_body body = eqb (whole_map body).refusal 0

-- a tail is one brace, or metadata with such a body
unfoldable pub is_tail : List ℕ → Bool
is_tail tail = eqb (tail_kind tail) 0 || (eqb (tail_kind tail) 1 && is_body (part tail 11 (length tail - 13)))
