-- Values that say nothing: all numbers 0, all marks no.
-- Assumes nothing.
use Rattle.std.specs.Prelude.{replicate}
use Rattle.format.specs.Version.{version}
use Rattle.game.specs.Frames.{no_port}
use Rattle.game.specs.declared.Game.{Game}
use Rattle.game.specs.declared.end.End.{End}
use Rattle.game.specs.declared.frames.Frames.{Frames}
use Rattle.game.specs.declared.start.Start.{Start}
use Rattle.game.specs.declared.start.Text.{Text}
use Rattle.game.specs.declared.start.Seat.{Seat}

abbrev pub no_text : Text
no_text = record { bytes = replicate 50 0; len = 0 }

-- nobody sits there; all texts alike
abbrev pub seat_with : Text → Seat
seat_with text = record {
  given = 0;
  character = 0;
  kind = 0;
  stocks = 0;
  costume = 0;
  team = record { given = 0; color = 0; shade = 0 };
  handicap = 0;
  bitfield = 0;
  cpu_level = record { given = 0; value = 0 };
  damage_start = 0;
  damage_spawn = 0;
  offense_ratio = 0;
  defense_ratio = 0;
  model_scale = 0;
  ucf = record { given = 0; dash_back = 0; shield_drop = 0 };
  name_tag_given = 0;
  name_tag = text;
  netplay = record { given = 0; name = text; code = text; suid_given = 0; suid = text };
}

abbrev pub no_seat : Seat
no_seat = seat_with no_text

abbrev pub no_frames : Frames
no_frames = record {
  version = version 0 0 0;
  counts = record { frames = 0; items = 0; fods = 0; whispys = 0; stadiums = 0 };
  ports = replicate 4 no_port;
  port_count = 0;
}

abbrev pub no_start : Start
no_start = record {
  bitfield = replicate 4 0;
  is_raining_bombs = 0;
  is_teams = 0;
  item_spawn_frequency = 0;
  self_destruct_score = 0;
  stage = 0;
  timer = 0;
  item_spawn_bitfield = replicate 5 0;
  damage_ratio = 0;
  seats = replicate 4 no_seat;
  random_seed = 0;
  is_pal = record { given = 0; value = 0 };
  is_frozen_ps = record { given = 0; value = 0 };
  scene = record { given = 0; minor = 0; major = 0 };
  language = record { given = 0; value = 0 };
  match_info = record { given = 0; tail = 0; id = no_text; game = 0; tiebreaker = 0 };
}

abbrev pub no_end : End
no_end = record { given = 0; method = 0; initiator = 0; placed = replicate 4 0; placements = replicate 4 0 }

abbrev pub no_game : Game
no_game = record {
  frames = no_frames;
  start = no_start;
  end = no_end;
  double_end = 0;
  codes_given = 0;
  metadata_given = 0;
  actual_size = 0;
}
