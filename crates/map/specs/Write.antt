-- What the public writer answers, and what it leaves in the output.
-- Assumes nothing.
use Rattle.std.specs.Prelude.{ℕ, Result, Ok, Err, ◌*◌, not, List, [], ◌∷◌, ◌≡◌, eqb, ltb, length}
use Rattle.wire.specs.Wire.{splice}
use Rattle.format.specs.Refusal.{refuse, lowest, one_of}
use Rattle.format.specs.Refused.{number_of}
use Rattle.format.specs.declared.refusal.Refusal.{Refusal}
use Rattle.map.specs.Map.{body_of}
use Rattle.map.specs.Rows.{Grown, map_at}
use Rattle.map.specs.Keys.{doubled_at}

-- the map of `count` entries that all rows stand for, at most 8 deep
abbrev pub lent_map : List ℕ → List ℕ → ℕ → Grown
lent_map rows texts count = map_at rows texts 8 0 count

-- too deep, a text too long, a key twice, no map of so many entries with rows of its own alone, a body over 65,535 bytes, no room
unfoldable pub refusal_of : List ℕ → List ℕ → ℕ → ℕ → ℕ
refusal_of rows texts count room =
    let g = lent_map rows texts count in
    lowest (refuse 20 (eqb g.refusal 20)
    ∷ refuse 21 (eqb g.refusal 21)
    ∷ refuse 22 (doubled_at rows texts 8 0 count)
    ∷ refuse 23 (one_of (not (eqb g.refusal 0) ∷ not (eqb (5 * g.next) (length rows)) ∷ []))
    ∷ refuse 2 (ltb 65535 (length (body_of g.map)))
    ∷ refuse 12 (ltb room (length (body_of g.map)))
    ∷ [])

-- an answer's numbers: a refusal, or 0 and the body's length
pub record Written : Type 0 where
  pub refusal : ℕ
  pub len : ℕ

abbrev pub map_written : Result ℕ Refusal → Written
map_written (Ok n) = record { refusal = 0; len = n }
map_written (Err r) = record { refusal = number_of r; len = 0 }

-- the body over the output's front, or the output as it was
pub record WriteMapOutcome (before rows texts : List ℕ) (count : ℕ) (after : List ℕ) (r : Written) : Type 0 where
  pub refusal_is : r.refusal ≡ refusal_of rows texts count (length before)
  pub accepted : r.refusal ≡ 0 → (r.len ≡ length (body_of (lent_map rows texts count).map)) × (after ≡ splice before 0 (body_of (lent_map rows texts count).map))
  pub untouched : (r.refusal ≡ 0 → ⊥) → (r.len ≡ 0) × (after ≡ before)
