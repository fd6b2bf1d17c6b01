-- Inner too: the bytes of eight frames that have the same players, part by part, and where these parts go.
-- Assumes nothing.
use Rattle.std.specs.Prelude.{ℕ, ◌+◌, ◌-◌, ◌*◌, ◌<◌, ◌≤◌, ◌≡◌, Bool, true, cond, List, [], length, get_or}
use Rattle.wire.specs.Wire.{ranged}
use Rattle.spread.specs.Inner.{place_at}
use Rattle.game.specs.Stores.{Offsets, Lent}
use Rattle.players.specs.declared.slots.Slots.{Slots}
use Rattle.events.specs.Inner.{one_bytes, slot_bytes, slots_bytes, middle_bytes, frame_bytes}
use Rattle.places.specs.declared.table.Spans.{Spans}
use Rattle.places.specs.Inner.{seats_on, Short}
use Rattle.events.specs.declared.shapes.Shape.{Shape}
use Rattle.events.specs.declared.shapes.Shapes.{Shapes}

-- frame i + t's row; its players' rows; those from slot k on; its rows by offsets; all of it
unfoldable pub ones_on : Shape → List ℕ → List ℕ → ℕ → ℕ → List ℕ
ones_on m cells ids i t = one_bytes m cells (get_or ids (i + t) 0) (i + t)

unfoldable pub players_on : Shape → Slots → List ℕ → List ℕ → List ℕ → ℕ → ℕ → List ℕ
players_on m s cells bits ids i t = slots_bytes m s cells bits (get_or ids (i + t) 0) (i + t)

unfoldable pub player_on : Shape → Slots → List ℕ → List ℕ → List ℕ → ℕ → ℕ → ℕ → List ℕ
player_on m s cells bits ids i k t = slot_bytes m s cells bits (get_or ids (i + t) 0) (i + t) k

unfoldable pub players_from : Shape → Slots → List ℕ → List ℕ → List ℕ → ℕ → ℕ → ℕ → List ℕ
players_from m s cells bits ids i k t = ranged (slot_bytes m s cells bits (get_or ids (i + t) 0) (i + t)) k (s.count - k)

unfoldable pub middle_on : Shapes → (items fods whispys stadiums : List ℕ) → Offsets → List ℕ → ℕ → ℕ → List ℕ
middle_on p items fods whispys stadiums o ids i t = middle_bytes p items fods whispys stadiums o (get_or ids (i + t) 0) (i + t)

unfoldable pub frame_on : Shapes → Slots → Lent → ℕ → ℕ → List ℕ
frame_on p s lent i t = frame_bytes p s lent (i + t)

-- ---- how long the parts are
-- a row without a player: none where the version lacks its family
abbrev pub row_size : Shape → ℕ
row_size m = cond m.given (5 + m.bytes) 0

-- records of at most 128 bytes
pub record Slim (p : Shapes) : Type 0 where
  pub start : p.start.bytes ≤ 128
  pub pre : p.pre.bytes ≤ 128
  pub fod : p.fod.bytes ≤ 128
  pub whispy : p.whispy.bytes ≤ 128
  pub stadium : p.stadium.bytes ≤ 128
  pub item : p.item.bytes ≤ 128
  pub post : p.post.bytes ≤ 128
  pub end : p.end.bytes ≤ 128

-- what the parts of frame i take
pub record Spanned (p : Shapes) (s : Slots) (bits : List ℕ) (i : ℕ) (z : Spans) : Type 0 where
  pub ahead : z.ahead ≡ row_size p.start + seats_on s bits i s.count * (7 + p.pre.bytes)
  pub behind : z.behind ≡ seats_on s bits i s.count * (7 + p.post.bytes) + row_size p.end
  pub fod : z.fod ≡ row_size p.fod
  pub whispy : z.whispy ≡ row_size p.whispy
  pub stadium : z.stadium ≡ row_size p.stadium
  pub item : z.item ≡ row_size p.item
  pub short : Short z

-- a flag that says that none of eight frames has a part
abbrev pub Absent : Bool → (ℕ → List ℕ) → Type 0
Absent calm f = calm ≡ true → (t : ℕ) → t < 8 → f t ≡ []

-- the table of places, by the bytes of the parts
pub record Apiece (p : Shapes) (s : Slots) (lent : Lent) (i : ℕ) (places : List ℕ) : Type 0 where
  pub few : length places ≡ 16
  pub back : (t : ℕ) → t < 8
      → place_at places 8 0 t
      ≡ place_at places 0 0 t
      + (length (ones_on p.start lent.cells.starts lent.cells.ids i t)
      + (length (players_on p.pre s lent.cells.pres lent.presence lent.cells.ids i t)
      + length (middle_on p lent.cells.items lent.cells.fods lent.cells.whispys lent.cells.stadiums lent.offsets lent.cells.ids i t)))
