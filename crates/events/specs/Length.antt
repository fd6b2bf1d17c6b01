-- How many bytes the events of the frames have, by counts.
-- Assumes nothing.
use Rattle.std.specs.Prelude.{ℕ, ◌+◌, ◌-◌, ◌*◌, cond, List, [], ◌∷◌, get_or}
use Rattle.format.specs.declared.version.Version.{Version}
use Rattle.layout.specs.Columns.{has_family}
use Rattle.layout.specs.Payloads.{record_size}
use Rattle.layout.specs.declared.columns.Family.{Family}
use Rattle.layout.specs.declared.columns.Family.TheVariants.{Pre, Post, FrameStart, Item, FrameEnd, FodPlatform, DreamlandWhispy, StadiumTransformation}
use Rattle.game.specs.Frames.{Slot, slots_of}
use Rattle.game.specs.Stores.{Offsets}
use Rattle.players.specs.Presence.{count_from, present_at, players_present}
use Rattle.game.specs.declared.frames.Frames.{Frames}

-- a family's event: its code and its payload; none where the version lacks the family
abbrev pub event_size : Version → Family → ℕ
event_size v family = cond (has_family v family) (1 + record_size family v) 0

-- a start and an end for each frame, a Pre and a Post for each player present, and each row of the others
unfoldable pub frames_length : Frames → List ℕ → ℕ
frames_length f presence =
    let n = f.counts.frames in
    let v = f.version in
    let players = players_present presence (slots_of f) n in
    n * event_size v FrameStart
    + (players * (1 + record_size Pre v)
    + (f.counts.fods * event_size v FodPlatform
    + (f.counts.whispys * event_size v DreamlandWhispy
    + (f.counts.stadiums * event_size v StadiumTransformation
    + (f.counts.items * event_size v Item
    + (players * (1 + record_size Post v)
    + n * event_size v FrameEnd))))))

-- the players of n frames from frame i on, slot by slot
unfoldable pub players_over : List ℕ → List Slot → ℕ → ℕ → ℕ
players_over bits [] i n = 0
players_over bits (s ∷ ss) i n = count_from (present_at bits s) i n + players_over bits ss i n

-- the rows by offsets of the frames from a on and before b
abbrev pub rows_between : List ℕ → ℕ → ℕ → ℕ
rows_between offsets a b = get_or offsets b 0 - get_or offsets a 0

-- the same of the frames from a on and before b
unfoldable pub run_length : Frames → Offsets → List ℕ → ℕ → ℕ → ℕ
run_length f o presence a b =
    let n = b - a in
    let v = f.version in
    let players = players_over presence (slots_of f) a n in
    n * event_size v FrameStart
    + (players * (1 + record_size Pre v)
    + (rows_between o.fods a b * event_size v FodPlatform
    + (rows_between o.whispys a b * event_size v DreamlandWhispy
    + (rows_between o.stadiums a b * event_size v StadiumTransformation
    + (rows_between o.items a b * event_size v Item
    + (players * (1 + record_size Post v)
    + n * event_size v FrameEnd))))))
