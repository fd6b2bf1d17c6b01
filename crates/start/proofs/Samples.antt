-- Players and starts for computed tables.
-- Assumes nothing.
use Prim.Native.Nat.{ℕ}
use mathlib.Core.List.{List, [], ◌∷◌}
use lib.ListN.{replicate, set}
use Rattle.game.specs.Zero.{seat_with}
use Rattle.game.specs.declared.start.Text.{Text}
use Rattle.game.specs.declared.start.Netplay.{Netplay}
use Rattle.game.specs.declared.start.Seat.{Seat}
use Rattle.game.specs.declared.start.Start.{Start}
use Rattle.game.specs.declared.start.MatchTail.{MatchTail}
use Rattle.game.specs.declared.start.MatchTail.TheVariants.{Kept}
use Rattle.game.specs.MatchTails.{match_tail_number}

-- n bytes, each 65
abbrev pub letters : ℕ → Text
letters n = record { bytes = replicate 50 65; len = n }

-- the same, but byte k is a zero
abbrev pub zero_at : ℕ → ℕ → Text
zero_at k n = record { bytes = set (replicate 50 65) k 0; len = n }

-- marks, and the texts
abbrev pub netplay_of : ℕ → ℕ → Text → Text → Text → Netplay
netplay_of given suid name code id = record { given = given; name = name; code = code; suid_given = suid; suid = id }

-- marks, and the lengths of the texts
abbrev pub netplay : ℕ → ℕ → ℕ → ℕ → ℕ → Netplay
netplay given suid name code long = netplay_of given suid (letters name) (letters code) (letters long)

-- a player: his kind, the marks of team, level, UCF and tag, the tag, and netplay
abbrev pub player_of : ℕ → ℕ → ℕ → ℕ → ℕ → Text → Netplay → Seat
player_of kind team level ucf given tag net = record {
  given = 1;
  character = 10;
  kind = kind;
  stocks = 4;
  costume = 2;
  team = record { given = team; color = 1; shade = 3 };
  handicap = 9;
  bitfield = 192;
  cpu_level = record { given = level; value = 7 };
  damage_start = 0x0102;
  damage_spawn = 0x0304;
  offense_ratio = 0x3f800000;
  defense_ratio = 0x3f800001;
  model_scale = 0x3f800002;
  ucf = record { given = ucf; dash_back = 1; shield_drop = 0x01020304 };
  name_tag_given = given;
  name_tag = tag;
  netplay = net;
}

-- the same, by the length of the tag
abbrev pub player : ℕ → ℕ → ℕ → ℕ → ℕ → ℕ → Netplay → Seat
player kind team level ucf given long net = player_of kind team level ucf given (letters long) net

-- nobody: that his texts are too long does not count
abbrev pub nobody : Seat
nobody = seat_with (letters 31)

-- a start with these seats, all of its own fields by one mark, and a match id whose tail is cleared or kept
abbrev pub start_tailed : MatchTail → List Seat → ℕ → Text → Start
start_tailed tail seats given id = record {
  bitfield = 1 ∷ 2 ∷ 3 ∷ 4 ∷ [];
  is_raining_bombs = 0;
  is_teams = 255;
  item_spawn_frequency = 255;
  self_destruct_score = 254;
  stage = 0x1f20;
  timer = 480;
  item_spawn_bitfield = 5 ∷ 6 ∷ 7 ∷ 8 ∷ 9 ∷ [];
  damage_ratio = 0x3f800000;
  seats = seats;
  random_seed = 0x0a0b0c0d;
  is_pal = record { given = given; value = 2 };
  is_frozen_ps = record { given = given; value = 0 };
  scene = record { given = given; minor = 11; major = 12 };
  language = record { given = given; value = 1 };
  match_info = record { given = given; tail = match_tail_number tail; id = id; game = 5; tiebreaker = 6 };
}

-- kept
abbrev pub start_of : List Seat → ℕ → Text → Start
start_of seats given id = start_tailed Kept seats given id

-- the same, by the length of the match id
abbrev pub start : List Seat → ℕ → ℕ → Start
start seats given long = start_of seats given (letters long)
