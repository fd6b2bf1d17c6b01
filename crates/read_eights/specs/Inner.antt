-- What functions promise each other of one event of eight frames, by its places in a table.
-- Assumes nothing.
use Rattle.std.specs.Prelude.{ℕ, zero, suc, ◌+◌, ◌*◌, ◌<◌, ◌≡◌, List, get_or}
use Rattle.read_event.specs.Parts.{Seats, Seating}
use Rattle.read_places.specs.Inner.{seat}

-- one event of m frames, whose places stand from i on
unfoldable pub across_at : Seating → List ℕ → List ℕ → ℕ → ℕ → ℕ → Seats → Seats
across_at q file places i zero n r = r
across_at q file places i (suc m) n r = seat q file (n + m) (get_or places (i + m) 0) (across_at q file places i m n r)

-- event after event, each of m frames
unfoldable pub team_at : Seating → List ℕ → List ℕ → ℕ → ℕ → ℕ → Seats → Seats
team_at q file places zero m n r = r
team_at q file places (suc j) m n r = across_at q file places (j * 8) m n (team_at q file places j m n r)

-- eight events of one code and player
pub record SameHeads (file places : List ℕ) (i : ℕ) : Type 0 where
  pub code : (t : ℕ) → t < 8 → get_or file (get_or places (i + t) 0) 0 ≡ get_or file (get_or places i 0) 0
  pub port : (t : ℕ) → t < 8 → get_or file (get_or places (i + t) 0 + 5) 0 ≡ get_or file (get_or places i 0 + 5) 0
  pub follower : (t : ℕ) → t < 8 → get_or file (get_or places (i + t) 0 + 6) 0 ≡ get_or file (get_or places i 0 + 6) 0
