-- Rooms and refusals, as one computed table. The numbers were added up apart from the definition, from the sizes and maxima that the format names.
-- Assumes nothing.
use mathlib.Core.Path.{◌≡◌, refl}
use mathlib.Core.List.{List, [], ◌∷◌, map}
use Prim.Native.Nat.{ℕ}
use Rattle.wire.specs.Wire.{be}
use Rattle.format.specs.File.{entries_bytes, table_bytes}
use Rattle.format.specs.Refusal.{lowest, one_of}
use Rattle.format.specs.Version.{version, above, gte_of, accepted_of}
use Rattle.format.specs.declared.version.Version.{Version}
use Rattle.layout.specs.Columns.{columns_of, chosen, sum, has_family}
use Rattle.layout.specs.Payloads.{end_size, listed, payload_size, entries_of}
use Rattle.frames.specs.Judge.{too_many}
use Rattle.start.specs.Length.{reached, length_of}
use Rattle.start.specs.Refusal.{block_wrong}
use Rattle.room.specs.Room.{how_many, event_room, room_of, room_refusals, reserved}
use Rattle.room.specs.declared.Plan.{Plan}
use Rattle.room.specs.declared.Reserved.{Reserved}

-- version and block; slots and frames; items and rows of each stage; code bytes and metadata
abbrev plan : Version → (block slots frames items fods whispys stadiums codes metadata : ℕ) → Plan
plan v block slots frames items fods whispys stadiums codes metadata = record {
  version = v;
  block = block;
  slots = slots;
  counts = record { frames = frames; items = items; fods = fods; whispys = whispys; stadiums = stadiums };
  codes = codes;
  metadata = metadata;
}

-- what is planned, and the number and the bytes of the answer
record Row : Type 0 where
  planned : Plan
  answer : Reserved

abbrev row : Plan → ℕ → ℕ → Row
row p k n = record { planned = p; answer = record { refused = k; bytes = n } }

table : List Row
table =
    -- nothing but a start block
    row (plan (version 0 1 0) 320 0 0 0 0 0 0 0 0) 0 367
    -- before 2.2: no FrameStart, and nothing for items, stages and codes
    ∷ row (plan (version 2 1 255) 418 2 10 3 4 5 6 1024 7) 0 2814
    -- the same without them
    ∷ row (plan (version 2 1 255) 418 2 10 0 0 0 0 0 7) 0 2814
    -- from 2.2
    ∷ row (plan (version 2 2 0) 418 2 10 3 4 5 6 1024 7) 0 2907
    -- before 3.0: no items, no FrameEnd
    ∷ row (plan (version 2 255 255) 418 2 10 3 4 5 6 1024 7) 0 2907
    -- the same without them
    ∷ row (plan (version 2 255 255) 418 2 10 0 0 0 0 0 7) 0 2907
    -- from 3.0
    ∷ row (plan (version 3 0 0) 418 2 10 3 4 5 6 1024 7) 0 3077
    -- before 3.3: no codes, and no rows of a stage
    ∷ row (plan (version 3 2 255) 418 2 10 3 4 5 6 1024 7) 0 3089
    -- the same without them
    ∷ row (plan (version 3 2 255) 418 2 10 3 0 0 0 0 7) 0 3089
    -- from 3.3
    ∷ row (plan (version 3 3 0) 418 2 10 3 4 5 6 1024 7) 0 4129
    -- before 3.18: no rows of a stage
    ∷ row (plan (version 3 17 255) 760 2 10 3 4 5 6 1024 7) 0 5268
    -- the same without them
    ∷ row (plan (version 3 17 255) 760 2 10 3 0 0 0 1024 7) 0 5268
    -- from 3.18
    ∷ row (plan (version 3 18 0) 760 2 10 3 4 5 6 1024 7) 0 5401
    -- one row more of each
    ∷ row (plan (version 3 18 0) 760 2 10 4 5 6 7 1024 7) 0 5471
    -- rows without frames
    ∷ row (plan (version 3 18 0) 760 2 0 3 4 5 6 1024 7) 0 1882
    -- the same without rows
    ∷ row (plan (version 3 18 0) 760 2 0 0 0 0 0 1024 7) 0 1882
    -- codes of 0, 511, 512, 513 and 1,024
    ∷ row (plan (version 3 18 0) 760 0 0 0 0 0 0 0 0) 0 841
    ∷ row (plan (version 3 18 0) 760 0 0 0 0 0 0 511 0) 0 841
    ∷ row (plan (version 3 18 0) 760 0 0 0 0 0 0 512 0) 0 1358
    ∷ row (plan (version 3 18 0) 760 0 0 0 0 0 0 513 0) 0 1358
    ∷ row (plan (version 3 18 0) 760 0 0 0 0 0 0 1024 0) 0 1875
    -- the most of everything
    ∷ row (plan (version 3 18 0) 65535 8 1048576 4194304 1048576 1048576 1048576 16777216 65535) 0 1530167375
    -- 1: above 3.18.0, before all others
    ∷ row (plan (version 3 18 1) 0 9 1048577 0 0 0 0 0 0) 1 0
    ∷ row (plan (version 3 19 0) 760 0 0 0 0 0 0 0 0) 1 0
    ∷ row (plan (version 4 0 0) 760 0 0 0 0 0 0 0 0) 1 0
    -- 2: each count, one over, before 7 and 8; also of what the version lacks
    ∷ row (plan (version 0 1 0) 0 9 1048577 0 0 0 0 0 0) 2 0
    ∷ row (plan (version 0 1 0) 320 0 0 4194305 0 0 0 0 0) 2 0
    ∷ row (plan (version 0 1 0) 320 0 0 0 1048577 0 0 0 0) 2 0
    ∷ row (plan (version 0 1 0) 320 0 0 0 0 1048577 0 0 0) 2 0
    ∷ row (plan (version 0 1 0) 320 0 0 0 0 0 1048577 0 0) 2 0
    ∷ row (plan (version 0 1 0) 320 0 0 0 0 0 0 16777217 0) 2 0
    ∷ row (plan (version 0 1 0) 320 0 0 0 0 0 0 0 65536) 2 0
    -- 7: nine slots, before 8; eight are taken
    ∷ row (plan (version 0 1 0) 0 9 0 0 0 0 0 0 0) 7 0
    ∷ row (plan (version 0 1 0) 320 8 1 0 0 0 0 0 0) 0 1111
    -- 8: a block that is shorter than the version's, or over 65,535
    ∷ row (plan (version 0 1 0) 319 0 0 0 0 0 0 0 0) 8 0
    ∷ row (plan (version 3 18 0) 759 0 0 0 0 0 0 0 0) 8 0
    ∷ row (plan (version 0 1 0) 65536 0 0 0 0 0 0 0 0) 8 0
    ∷ row (plan (version 0 1 0) 65535 0 0 0 0 0 0 0 0) 0 65582
    ∷ []

-- computed
answers : map (λ (r : Row). reserved r.planned) table ≡ map (λ (r : Row). r.answer) table
unfolding table room_refusals lowest too_many one_of block_wrong length_of reached accepted_of above gte_of room_of event_room how_many sum chosen columns_of has_family listed payload_size entries_of end_size table_bytes entries_bytes be
answers = refl
