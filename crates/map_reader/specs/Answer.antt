-- What the public reader answers, and what it leaves in the store of entries.
-- Assumes nothing.
use Rattle.std.specs.Prelude.{ℕ, Result, Ok, Err, ◌*◌, cond, List, [], ◌∷◌, ◌≡◌, eqb, ltb, length}
use Rattle.wire.specs.Wire.{splice}
use Rattle.format.specs.Refusal.{refuse, lowest}
use Rattle.format.specs.Refused.{number_of}
use Rattle.map_reader.specs.Read.{Seen, stopped, other_wrong, map_read_at}
use Rattle.map_reader.specs.Back.{count_of, entry_count, map_rows}
use Rattle.map_reader.specs.declared.read.Counts.{Counts}
use Rattle.map_reader.specs.declared.read.WrongAt.{WrongAt}

-- the map of a whole body, at most 8 deep: its entries end where the body does
unfoldable pub whole_map : List ℕ → Seen
whole_map b =
    let g = map_read_at b 8 0 in
    cond (eqb g.refusal 0) (cond (eqb g.stop (length b)) g (stopped (other_wrong b g.stop) g.stop)) g

-- the first that is wrong in the body; else a body over 65,535 bytes, or no room for five cells an entry
unfoldable pub read_refusal : List ℕ → ℕ → ℕ
read_refusal b room =
    let g = whole_map b in
    cond (eqb g.refusal 0) (lowest (refuse 2 (ltb 65535 (length b)) ∷ refuse 12 (ltb room (5 * entry_count g.map)) ∷ [])) g.refusal

-- the wrong place, where there is one
unfoldable pub read_place : List ℕ → ℕ
read_place b = cond (eqb (whole_map b).refusal 0) 0 (whole_map b).stop

-- an answer's numbers: a refusal and the wrong place in the body, 0 where none is named; or 0, how many entries the map has itself, and how many in all
pub record MapRead : Type 0 where
  pub refusal : ℕ
  pub place : ℕ
  pub count : ℕ
  pub entries : ℕ

abbrev pub map_read : Result Counts WrongAt → MapRead
map_read (Ok c) = record { refusal = 0; place = 0; count = c.count; entries = c.entries }
map_read (Err w) = record { refusal = number_of w.refusal; place = w.place; count = 0; entries = 0 }

-- the entries over the store's front, or the store as it was
pub record ReadMapOutcome (body before after : List ℕ) (r : MapRead) : Type 0 where
  pub refusal_is : r.refusal ≡ read_refusal body (length before)
  pub place_is : r.place ≡ read_place body
  pub accepted : r.refusal ≡ 0 → (r.count ≡ count_of (whole_map body).map) × (r.entries ≡ entry_count (whole_map body).map) × (after ≡ splice before 0 (map_rows (whole_map body).map 0))
  pub untouched : (r.refusal ≡ 0 → ⊥) → (r.count ≡ 0) × (r.entries ≡ 0) × (after ≡ before)
