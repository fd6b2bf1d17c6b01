-- The events of the frames: a frame's start, its players' Pre, its stage's and its items' rows, its players' Post, and its end.
-- Assumes nothing.
use Rattle.std.specs.Prelude.{ℕ, ◌+◌, ◌-◌, ◌*◌, true, false, List, [], ◌∷◌, ◌++◌, length, get_or}
use Rattle.wire.specs.Wire.{ranged, keep}
use Rattle.format.specs.Event.{code_of}
use Rattle.format.specs.File.{Ev}
use Rattle.layout.specs.Columns.{has_family, widths_of}
use Rattle.layout.specs.Payloads.{event_of}
use Rattle.layout.specs.declared.columns.Family.{Family}
use Rattle.layout.specs.declared.columns.Family.TheVariants.{Pre, Post, FrameStart, Item, FrameEnd, FodPlatform, DreamlandWhispy, StadiumTransformation}
use Rattle.record.specs.Record.{record_of}
use Rattle.record.specs.declared.Head.{Head}
use Rattle.game.specs.Frames.{Slot, no_slot, slots_of, rows_of}
use Rattle.game.specs.Stores.{Lent, cells_of, offsets_of}
use Rattle.players.specs.Presence.{present_at}
use Rattle.game.specs.declared.frames.Frames.{Frames}

-- what stands before the cells: code and frame id, and for Pre and Post the player
abbrev pub plain_head : ℕ → ℕ → Head
plain_head code id = record { code = code; id = id; player = false; port = 0; follower = 0 }

abbrev pub player_head : ℕ → ℕ → ℕ → ℕ → Head
player_head code id port follower = record { code = code; id = id; player = true; port = port; follower = follower }

abbrev pub head_of : Family → ℕ → Head
head_of family id = plain_head (code_of (event_of family)) id

abbrev pub player_of : Family → ℕ → Slot → Head
player_of family id s = player_head (code_of (event_of family)) id s.port s.follower

-- a row of a family's block as a record: the cell of a column is at ((block * columns) + column) * rows + row
abbrev pub row_of : Frames → Lent → Family → Head → ℕ → ℕ → Ev
row_of f lent family head block row =
    let widths = widths_of family f.version in
    let rows = rows_of f family in
    record_of head widths (cells_of lent.cells family) rows (block * (length widths * rows) + row)

-- the id of frame i
abbrev pub id_of : Lent → ℕ → ℕ
id_of lent i = get_or lent.cells.ids i 0

module _ (f : Frames) (lent : Lent) (family : Family) (i : ℕ) where
  -- frame i's row of a family that has one a frame, where the version has the family
  unfoldable pub one_event : List Ev
  one_event = keep (has_family f.version family) (row_of f lent family (head_of family (id_of lent i)) 0 i ∷ [])

  -- frame i's rows of a family with offsets: from offset i on and before offset i + 1
  unfoldable pub row_events : List Ev
  row_events =
      let offsets = offsets_of lent.offsets family in
      keep (has_family f.version family)
      (ranged (λ j. row_of f lent family (head_of family (id_of lent i)) 0 j ∷ []) (get_or offsets i 0) (get_or offsets (i + 1) 0 - get_or offsets i 0))

  -- the k-th slot's row of frame i, where its player is present
  abbrev pub player_event : ℕ → List Ev
  player_event k =
      let s = get_or (slots_of f) k no_slot in
      keep (present_at lent.presence s i) (row_of f lent family (player_of family (id_of lent i) s) k i ∷ [])

  unfoldable pub player_events : List Ev
  player_events = ranged player_event 0 (length (slots_of f))

unfoldable pub frame_events : Frames → Lent → ℕ → List Ev
frame_events f lent i =
    one_event f lent FrameStart i
    ++ (player_events f lent Pre i
    ++ (row_events f lent FodPlatform i
    ++ (row_events f lent DreamlandWhispy i
    ++ (row_events f lent StadiumTransformation i
    ++ (row_events f lent Item i
    ++ (player_events f lent Post i
    ++ one_event f lent FrameEnd i))))))

-- frame after frame
unfoldable pub frames_events : Frames → Lent → List Ev
frames_events f lent = ranged (frame_events f lent) 0 f.counts.frames
