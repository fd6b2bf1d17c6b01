-- What the frames of a replay say as columns (2026-01): the frame input that is read back, and the contents of its stores.
-- Assumes nothing.
use Rattle.std.specs.Prelude.{ℕ, zero, suc, ◌+◌, ◌-◌, ◌*◌, ◌/◌, Bool, false, cond, ◌||◌, List, [], ◌∷◌, ◌++◌, map, eqb, length, take, drop, replicate}
use Rattle.wire.specs.Wire.{number, ranged, keep}
use Rattle.format.specs.declared.version.Version.{Version}
use Rattle.layout.specs.Columns.{has_family, widths_of}
use Rattle.layout.specs.declared.columns.Family.{Family}
use Rattle.layout.specs.declared.columns.Family.TheVariants.{Pre, Post, FrameStart, Item, FrameEnd, FodPlatform, DreamlandWhispy, StadiumTransformation}
use Rattle.game.specs.Frames.{no_port, Slot, slots_of}
use Rattle.game.specs.Stores.{Lent, lent, cells, offsets}
use Rattle.game.specs.declared.frames.PortColumn.{PortColumn}
use Rattle.game.specs.declared.frames.Frames.{Frames}
use Rattle.grammar.specs.Productions.{Player, Frame}
use Rattle.grammar.specs.WellFormed.{slot_of}

-- ---- who is there

-- one of these players has slot k
unfoldable pub holds : ℕ → List Player → Bool
holds k [] = false
holds k (p ∷ ps) = eqb (slot_of p) k || holds k ps

-- and in one of these frames
unfoldable pub ever_in : ℕ → List Frame → Bool
ever_in k [] = false
ever_in k (f ∷ fs) = holds k f.players || ever_in k fs

-- the players of frame i
unfoldable pub players_at : List Frame → ℕ → List Player
players_at [] i = []
players_at (f ∷ fs) zero = f.players
players_at (f ∷ fs) (suc i) = players_at fs i

-- slot k has a player in frame i
abbrev pub is_in : ℕ → List Frame → ℕ → Bool
is_in k fs i = holds k (players_at fs i)

-- ---- the frame input

-- how many presence bytes a slot has: never none
abbrev pub presence_len : List Frame → ℕ
presence_len fs = (length fs + 7) / 8

-- a port has a column where its leader or its follower is ever there
abbrev pub port_column : List Frame → ℕ → PortColumn
port_column fs n = record {
  port = n;
  follower = cond (ever_in (2 * n + 1) fs) 1 0;
  leader_presence = presence_len fs;
  follower_presence = cond (ever_in (2 * n + 1) fs) (presence_len fs) 0;
}

unfoldable pub port_columns : List Frame → List PortColumn
port_columns fs = ranged (λ n. keep (ever_in (2 * n) fs || ever_in (2 * n + 1) fs) (port_column fs n ∷ [])) 0 4

-- a frame's rows of a family, as they stand behind the id; a player's stand by slot, below
abbrev pub rows_here : Version → Family → Frame → List (List ℕ)
rows_here v FrameStart f = keep (has_family v FrameStart) (f.start ∷ [])
rows_here v FrameEnd f = keep (has_family v FrameEnd) (f.end ∷ [])
rows_here v FodPlatform f = f.fods
rows_here v DreamlandWhispy f = f.whispys
rows_here v StadiumTransformation f = f.stadiums
rows_here v Item f = f.items
rows_here v Pre f = []
rows_here v Post f = []

-- those of all frames
unfoldable pub rows_there : Version → Family → List Frame → List (List ℕ)
rows_there v family [] = []
rows_there v family (f ∷ fs) = rows_here v family f ++ rows_there v family fs

unfoldable pub frames_read : Version → List Frame → Frames
frames_read v fs = record {
  version = v;
  counts = record {
    frames = length fs;
    items = length (rows_there v Item fs);
    fods = length (rows_there v FodPlatform fs);
    whispys = length (rows_there v DreamlandWhispy fs);
    stadiums = length (rows_there v StadiumTransformation fs);
  };
  ports = port_columns fs ++ replicate (4 - length (port_columns fs)) no_port;
  port_count = length (port_columns fs);
}

-- ---- cells

-- rows of bytes as columns, one after another: the first column has the number of its width at the front of each row, the others follow behind;
-- where bytes are missing, zeros
unfoldable pub cell_columns : List ℕ → List (List ℕ) → List ℕ
cell_columns [] rows = []
cell_columns (w ∷ ws) rows = map (λ b. number (take w b)) rows ++ cell_columns ws (map (drop w) rows)

-- the row of slot k's player, of whom Pre and Post have one; no bytes where there is none
abbrev pub row_by : Family → Player → List ℕ
row_by Pre p = p.pre
row_by Post p = p.post
row_by FrameStart p = []
row_by Item p = []
row_by FrameEnd p = []
row_by FodPlatform p = []
row_by DreamlandWhispy p = []
row_by StadiumTransformation p = []

unfoldable pub slot_row : Family → ℕ → List Player → List ℕ
slot_row family k [] = []
slot_row family k (p ∷ ps) = cond (eqb (slot_of p) k) (row_by family p) (slot_row family k ps)

-- a slot's number: two for each port
abbrev pub slot_number : Slot → ℕ
slot_number s = 2 * s.port + s.follower

-- a block of columns for each slot in turn
unfoldable pub slots_cells : Version → Family → List Frame → List Slot → List ℕ
slots_cells v family fs [] = []
slots_cells v family fs (s ∷ ss) = cell_columns (widths_of family v) (map (λ f. slot_row family (slot_number s) f.players) fs) ++ slots_cells v family fs ss

abbrev pub players_cells : Version → Family → List Frame → List ℕ
players_cells v family fs = slots_cells v family fs (slots_of (frames_read v fs))

abbrev pub rows_cells : Version → Family → List Frame → List ℕ
rows_cells v family fs = cell_columns (widths_of family v) (rows_there v family fs)

-- ---- offsets and presence

-- numbers as running totals, from n on
unfoldable pub totals : ℕ → List ℕ → List ℕ
totals n [] = n ∷ []
totals n (k ∷ ks) = n ∷ totals (n + k) ks

-- how many rows of a family stand before each frame, and in all; nothing where the version lacks it
unfoldable pub offsets_read : Version → Family → List Frame → List ℕ
offsets_read v family fs = keep (has_family v family) (totals 0 (map (λ f. length (rows_here v family f)) fs))

-- n tests from i on as a number, the first lowest
unfoldable pub bits_from : (ℕ → Bool) → ℕ → ℕ → ℕ
bits_from p i zero = 0
bits_from p i (suc n) = cond (p i) 1 0 + 2 * bits_from p (i + 1) n

-- the presence bytes of slot k: eight frames a byte, spare bits 0
unfoldable pub presence_bytes : ℕ → List Frame → List ℕ
presence_bytes k fs = ranged (λ j. bits_from (is_in k fs) (8 * j) 8 ∷ []) 0 (presence_len fs)

unfoldable pub slots_presence : List Frame → List Slot → List ℕ
slots_presence fs [] = []
slots_presence fs (s ∷ ss) = presence_bytes (slot_number s) fs ++ slots_presence fs ss

-- ---- all stores

abbrev pub ids_read : List Frame → List ℕ
ids_read fs = map (λ (f : Frame). f.id) fs

unfoldable pub lent_read : Version → List Frame → Lent
lent_read v fs =
    lent
    (cells (ids_read fs) (rows_cells v FrameStart fs) (players_cells v Pre fs) (players_cells v Post fs) (rows_cells v FrameEnd fs) (rows_cells v Item fs)
    (rows_cells v FodPlatform fs) (rows_cells v DreamlandWhispy fs) (rows_cells v StadiumTransformation fs))
    (offsets (offsets_read v Item fs) (offsets_read v FodPlatform fs) (offsets_read v DreamlandWhispy fs) (offsets_read v StadiumTransformation fs))
    (slots_presence fs (slots_of (frames_read v fs)))
