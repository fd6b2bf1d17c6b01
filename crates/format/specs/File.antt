-- A replay file: its payload table, its events, and what follows them.
-- Assumes nothing.
use Rattle.std.specs.Prelude.{ℕ, suc, ◌+◌, ◌*◌, ◌≤◌, ◌<◌, ◌≡◌, cond, List, [], ◌∷◌, ◌++◌, map, eqb, length, get_or}
use Rattle.wire.specs.Wire.{be}
use Rattle.format.specs.Event.{signature, code_of}
use Rattle.format.specs.declared.event.Event.TheVariants.{Payloads}

-- an entry of the payload table: an event's code, and the size of its payload
pub record Entry : Type 0 where
  pub code : ℕ
  pub size : ℕ

-- an event: its code and its payload
pub record Ev : Type 0 where
  pub code : ℕ
  pub payload : List ℕ

unfoldable pub entries_bytes : List Entry → List ℕ
entries_bytes [] = []
entries_bytes (e ∷ t) = e.code ∷ (be 2 e.size ++ entries_bytes t)

-- the table is an event too: its payload is its own size and three bytes an entry
unfoldable pub table_bytes : List Entry → List ℕ
table_bytes t = code_of Payloads ∷ (3 * length t + 1) ∷ entries_bytes t

abbrev pub event_bytes : Ev → List ℕ
event_bytes e = e.code ∷ e.payload

unfoldable pub events_bytes : List Ev → List ℕ
events_bytes [] = []
events_bytes (e ∷ es) = event_bytes e ++ events_bytes es

-- the file: the signature, the length of table and events, the table, the events, and the tail
unfoldable pub file_of : List Entry → List Ev → List ℕ → List ℕ
file_of t es tail = signature ++ (be 4 (length (table_bytes t ++ events_bytes es)) ++ (table_bytes t ++ (events_bytes es ++ tail)))

-- ---- what a reader needs of a table and of the events under it

abbrev pub codes : List Entry → List ℕ
codes t = map (λ (e : Entry). e.code) t

abbrev pub sizes : List Entry → List ℕ
sizes t = map (λ (e : Entry). e.size) t

-- the index of the first x, or the length where there is none
unfoldable pub index_of : ℕ → List ℕ → ℕ
index_of x [] = 0
index_of x (y ∷ ys) = cond (eqb y x) 0 (suc (index_of x ys))

-- no code of the table stands among those before it, and each size is a number of two bytes
unfoldable pub Fresh : List ℕ → List Entry → Type 0
Fresh seen [] = Unit {0}
Fresh seen (e ∷ t) = (length seen ≤ index_of e.code seen) × (e.size < 65536) × Fresh (seen ++ (e.code ∷ [])) t

-- the code of every event is in the table, with the length of its payload
unfoldable pub Listed : List Entry → List Ev → Type 0
Listed t [] = Unit {0}
Listed t (e ∷ es) =
    (index_of e.code (codes t) < length (codes t))
    × (get_or (sizes t) (index_of e.code (codes t)) 0 ≡ length e.payload)
    × Listed t es
