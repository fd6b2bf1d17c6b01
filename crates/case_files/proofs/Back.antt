-- The start that comes back of the worked cases, whose templates are zeros: m is 1 where the version has all fields, 0 where it has none but those of 0.1.
-- Assumes nothing.
use Prim.Native.Nat.{ℕ}
use lib.ListN.{replicate}
use Rattle.game.specs.Zero.{no_text}
use Rattle.game.specs.declared.start.Optional.{Optional}
use Rattle.game.specs.declared.start.Seat.{Seat}
use Rattle.game.specs.declared.start.Start.{Start}

abbrev zero_if : ℕ → Optional
zero_if m = record { given = m; value = 0 }

-- nobody sat there, but the template has type 0, a human's: so a seat comes back given. One of type 3 would be empty
abbrev pub seat_back : ℕ → Seat
seat_back m = record {
  given = 1;
  character = 0;
  kind = 0;
  stocks = 0;
  costume = 0;
  team = record { given = 0; color = 0; shade = 0 };
  handicap = 0;
  bitfield = 0;
  cpu_level = record { given = 0; value = 0 };
  damage_start = 0;
  damage_spawn = 0;
  offense_ratio = 0;
  defense_ratio = 0;
  model_scale = 0;
  ucf = record { given = m; dash_back = 0; shield_drop = 0 };
  name_tag_given = m;
  name_tag = no_text;
  netplay = record { given = m; name = no_text; code = no_text; suid_given = m; suid = no_text };
}

-- the match id's tail comes back as kept, which is 1
abbrev pub start_back : ℕ → Start
start_back m = record {
  bitfield = replicate 4 0;
  is_raining_bombs = 0;
  is_teams = 0;
  item_spawn_frequency = 0;
  self_destruct_score = 0;
  stage = 0;
  timer = 0;
  item_spawn_bitfield = replicate 5 0;
  damage_ratio = 0;
  seats = replicate 4 (seat_back m);
  random_seed = 0;
  is_pal = zero_if m;
  is_frozen_ps = zero_if m;
  scene = record { given = m; minor = 0; major = 0 };
  language = zero_if m;
  match_info = record { given = m; tail = m; id = no_text; game = 0; tiebreaker = 0 };
}
