-- What functions ask and promise each other of eight frames: whether they have the same players, how long their rows by offsets are, and where they begin.
-- Assumes nothing.
use Rattle.std.specs.Prelude.{ℕ, zero, suc, ◌+◌, ◌-◌, ◌*◌, ◌<◌, ◌≤◌, ◌≡◌, cond, List, length, get_or}
use Rattle.game.specs.Stores.{Offsets}
use Rattle.players.specs.Presence.{marked}
use Rattle.players.specs.Inner.{Eight, Ranges}
use Rattle.players.specs.declared.slots.Slots.{Slots}
use Rattle.places.specs.declared.table.Spans.{Spans}

-- the slots, as many as there are arrays for
pub record Seated (s : Slots) : Type 0 where
  pub few : s.count ≤ 8
  pub eight : Eight s

-- the eight frames from i on have a slot's player, or none of them has
pub record Steady (bits : List ℕ) (at len i : ℕ) : Type 0 where
  pub mark : (t : ℕ) → t < 8 → marked bits at len (i + t) ≡ marked bits at len i

-- they have the same players
pub record Together (s : Slots) (bits : List ℕ) (i : ℕ) : Type 0 where
  pub each : (k : ℕ) → k < s.count → Steady bits (get_or s.at k 0) (get_or s.len k 0) i

-- no slot has presence bits
pub record Whole (s : Slots) : Type 0 where
  pub none : (k : ℕ) → k < s.count → get_or s.len k 0 ≡ 0

-- the players of frame i in the first k slots
unfoldable pub seats_on : Slots → List ℕ → ℕ → ℕ → ℕ
seats_on s bits i zero = 0
seats_on s bits i (suc k) = seats_on s bits i k + cond (marked bits (get_or s.at k 0) (get_or s.len k 0) i) 1 0

-- rows of at most 133 bytes
pub record Short (z : Spans) : Type 0 where
  pub fod : z.fod ≤ 133
  pub whispy : z.whispy ≤ 133
  pub stadium : z.stadium ≤ 133
  pub item : z.item ≤ 133

-- offsets of n frames, where the version has their family
abbrev pub RangesWhere : ℕ → List ℕ → ℕ → Type 0
RangesWhere size offsets n = 0 < size → Ranges n (get_or offsets n 0) offsets

pub record RangesAll (z : Spans) (o : Offsets) (n : ℕ) : Type 0 where
  pub fod : RangesWhere z.fod o.fods n
  pub whispy : RangesWhere z.whispy o.whispys n
  pub stadium : RangesWhere z.stadium o.stadiums n
  pub item : RangesWhere z.item o.items n

-- what frame i's rows by offsets take: a family's, and all
abbrev pub rows_long : ℕ → List ℕ → ℕ → ℕ
rows_long size offsets i = (get_or offsets (i + 1) 0 - get_or offsets i 0) * size

unfoldable pub middle_long : Spans → Offsets → ℕ → ℕ
middle_long z o i = rows_long z.fod o.fods i + (rows_long z.whispy o.whispys i + (rows_long z.stadium o.stadiums i + rows_long z.item o.items i))

-- no frame from a on and before b has a row by these offsets; by any
pub record Bare (size : ℕ) (offsets : List ℕ) (a b : ℕ) : Type 0 where
  pub none : (j : ℕ) → a ≤ j → j < b → rows_long size offsets j ≡ 0

pub record BareAll (z : Spans) (o : Offsets) (a b : ℕ) : Type 0 where
  pub none : (j : ℕ) → a ≤ j → j < b → middle_long z o j ≡ 0

-- ---- where the parts go
-- where frame i + t begins, where frame i begins at `at`
unfoldable pub begins_at : Spans → Offsets → ℕ → ℕ → ℕ → ℕ
begins_at z o i at zero = at
begins_at z o i at (suc t) = begins_at z o i at t + (z.ahead + middle_long z o (i + t) + z.behind)

-- a table of the places of the eight frames from i on: where each begins, and where what stands behind its rows by offsets begins
pub record Laid (z : Spans) (o : Offsets) (i at : ℕ) (places : List ℕ) (end : ℕ) : Type 0 where
  pub few : length places ≡ 16
  pub front : (t : ℕ) → t < 8 → get_or places t 0 ≡ begins_at z o i at t
  pub back : (t : ℕ) → t < 8 → get_or places (8 + t) 0 ≡ begins_at z o i at t + (z.ahead + middle_long z o (i + t))
  pub end_is : end ≡ begins_at z o i at 8
