-- The games of the cases: all fields and cells 0, all marks of a start's own fields set.
-- Assumes nothing.
use Rattle.std.specs.Prelude.{ℕ, List, [], replicate}
use Rattle.format.specs.declared.version.Version.{Version}
use Rattle.game.specs.Frames.{no_port}
use Rattle.game.specs.declared.frames.Frames.{Frames}
use Rattle.game.specs.Stores.{cells, offsets, lent, Stores, stores}
use Rattle.game.specs.Zero.{no_text, no_seat}
use Rattle.game.specs.declared.start.Text.{Text}
use Rattle.game.specs.declared.start.Optional.{Optional}
use Rattle.game.specs.declared.start.Seat.{Seat}
use Rattle.game.specs.declared.start.Start.{Start}
use Rattle.game.specs.declared.end.End.{End}
use Rattle.game.specs.declared.Game.{Game}

-- a byte that is given
abbrev pub zero_byte : Optional
zero_byte = record { given = 1; value = 0 }

-- four seats alike, and a match id
abbrev pub start_with : Seat → Text → Start
start_with seat id = record {
  bitfield = replicate 4 0;
  is_raining_bombs = 0;
  is_teams = 0;
  item_spawn_frequency = 0;
  self_destruct_score = 0;
  stage = 0;
  timer = 0;
  item_spawn_bitfield = replicate 5 0;
  damage_ratio = 0;
  seats = replicate 4 seat;
  random_seed = 0;
  is_pal = zero_byte;
  is_frozen_ps = zero_byte;
  scene = record { given = 1; minor = 0; major = 0 };
  language = zero_byte;
  match_info = record { given = 1; tail = 0; id = id; game = 0; tiebreaker = 0 };
}

abbrev pub plain_start : Start
plain_start = start_with no_seat no_text

-- an end by nobody, or none
abbrev pub plain_end : ℕ → End
plain_end given = record { given = given; method = 0; initiator = 0xFF; placed = replicate 4 0; placements = replicate 4 0 }

-- so many frames, and so many port columns: a leader at port 0 each
abbrev pub plain_frames : Version → ℕ → ℕ → Frames
plain_frames v frames ports = record {
  version = v;
  counts = record { frames = frames; items = 0; fods = 0; whispys = 0; stadiums = 0 };
  ports = replicate 4 no_port;
  port_count = ports;
}

-- with an end or none, and with codes of some actual size, or none
abbrev pub game_with : Frames → Start → ℕ → ℕ → ℕ → Game
game_with frames start end given actual = record {
  frames = frames;
  start = start;
  end = plain_end end;
  double_end = 0;
  codes_given = given;
  metadata_given = 0;
  actual_size = actual;
}

-- a game of so many frames and port columns
abbrev pub game_of : Version → ℕ → ℕ → ℕ → ℕ → ℕ → Game
game_of v frames ports end given actual = game_with (plain_frames v frames ports) plain_start end given actual

-- nothing is lent but a start block
abbrev pub block_alone : List ℕ → Stores
block_alone block = stores (lent (cells [] [] [] [] [] [] [] [] []) (offsets [] [] [] []) []) block [] []

-- the cells of one frame with one leader at 3.18, a start block of 760 bytes, and codes
abbrev pub one_frame : List ℕ → Stores
one_frame codes =
    stores
    (lent
    (cells (replicate 1 0) (replicate 2 0) (replicate 19 0) (replicate 32 0) (replicate 1 0) [] [] [] [])
    (offsets (replicate 2 0) (replicate 2 0) (replicate 2 0) (replicate 2 0)) [])
    (replicate 760 0) codes []
