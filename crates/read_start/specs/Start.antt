-- The start that a block says (2026-01). Fields that the version lacks are not given, and 0.
-- Assumes nothing.
use Rattle.std.specs.Prelude.{ℕ, ◌+◌, ◌-◌, ◌*◌, Bool, true, false, cond, ◌&&◌, List, [], ◌∷◌, ◌++◌, eqb, leb, length, get_or, replicate}
use Rattle.wire.specs.Wire.{number, part, ranged}
use Rattle.format.specs.Mark.{yes, mark_if, flag_of}
use Rattle.format.specs.declared.version.Version.{Version}
use Rattle.patch.specs.Field.{read_at}
use Rattle.start.specs.Gate.{reaches, ucf_from, tag_from, pal_from, frozen_from, scene_from, netplay_from, suid_from, language_from, match_from}
use Rattle.game.specs.MatchTails.{match_tail_number}
use Rattle.game.specs.Zero.{no_text, no_seat}
use Rattle.game.specs.declared.start.MatchTail.TheVariants.{Kept}
use Rattle.game.specs.declared.start.Text.{Text}
use Rattle.game.specs.declared.start.Optional.{Optional}
use Rattle.game.specs.declared.start.Team.{Team}
use Rattle.game.specs.declared.start.Ucf.{Ucf}
use Rattle.game.specs.declared.start.Netplay.{Netplay}
use Rattle.game.specs.declared.start.Seat.{Seat}
use Rattle.game.specs.declared.start.Scene.{Scene}
use Rattle.game.specs.declared.start.Match.{Match}
use Rattle.game.specs.declared.start.Start.{Start}

abbrev pub byte_at : List ℕ → ℕ → ℕ
byte_at block at = get_or block at 0

abbrev pub number_at : List ℕ → ℕ → ℕ → ℕ
number_at block at width = number (part block at width)

-- a text of up to 50 bytes: it ends at its first zero, or at its limit
abbrev pub text_at : List ℕ → ℕ → ℕ → Text
text_at block at limit = let t = read_at block at limit in record { bytes = t ++ replicate (50 - length t) 0; len = length t }

-- what is given where the version has it
abbrev pub optional_if : Bool → ℕ → Optional
optional_if true value = record { given = 1; value = value }
optional_if false value = record { given = 0; value = 0 }

-- ---- the player of port n, of the 36 bytes at 100 + 36 n and what the version adds

-- teams are read where the game has them
abbrev pub team_if : Bool → List ℕ → ℕ → Team
team_if true block at = record { given = 1; color = byte_at block (at + 9); shade = byte_at block (at + 7) }
team_if false block at = record { given = 0; color = 0; shade = 0 }

abbrev pub ucf_if : Bool → List ℕ → ℕ → Ucf
ucf_if true block n = record { given = 1; dash_back = number_at block (320 + 8 * n) 4; shield_drop = number_at block (324 + 8 * n) 4 }
ucf_if false block n = record { given = 0; dash_back = 0; shield_drop = 0 }

abbrev pub text_if : Bool → List ℕ → ℕ → ℕ → Text
text_if true block at limit = text_at block at limit
text_if false block at limit = no_text

abbrev pub netplay_in : Version → List ℕ → ℕ → Netplay
netplay_in v block n = record {
  given = mark_if (reaches v netplay_from);
  name = text_if (reaches v netplay_from) block (420 + 31 * n) 30;
  code = text_if (reaches v netplay_from) block (544 + 10 * n) 9;
  suid_given = mark_if (reaches v suid_from);
  suid = text_if (reaches v suid_from) block (584 + 29 * n) 28;
}

-- a player who is there; the level only of a CPU
abbrev pub player_in : Version → List ℕ → ℕ → Seat
player_in v block n = let at = 100 + 36 * n in record {
  given = 1;
  character = byte_at block (at + 0);
  kind = byte_at block (at + 1);
  stocks = byte_at block (at + 2);
  costume = byte_at block (at + 3);
  team = team_if (yes (byte_at block 12)) block at;
  handicap = byte_at block (at + 8);
  bitfield = byte_at block (at + 12);
  cpu_level = optional_if (eqb (byte_at block (at + 1)) 1) (byte_at block (at + 15));
  damage_start = number_at block (at + 16) 2;
  damage_spawn = number_at block (at + 18) 2;
  offense_ratio = number_at block (at + 24) 4;
  defense_ratio = number_at block (at + 28) 4;
  model_scale = number_at block (at + 32) 4;
  ucf = ucf_if (reaches v ucf_from) block n;
  name_tag_given = mark_if (reaches v tag_from);
  name_tag = text_if (reaches v tag_from) block (352 + 16 * n) 16;
  netplay = netplay_in v block n;
}

-- a seat of type 3 is empty
unfoldable pub seat_in : Version → List ℕ → ℕ → Seat
seat_in v block n = cond (eqb (byte_at block (101 + 36 * n)) 3) no_seat (player_in v block n)

-- the four seat types are at most 3
unfoldable pub seats_fit : List ℕ → Bool
seats_fit block = leb (byte_at block 101) 3 && leb (byte_at block 137) 3 && leb (byte_at block 173) 3 && leb (byte_at block 209) 3

-- ---- the game

abbrev pub scene_if : Bool → List ℕ → Scene
scene_if true block = record { given = 1; minor = byte_at block 418; major = byte_at block 419 }
scene_if false block = record { given = 0; minor = 0; major = 0 }

-- the tail of the match id is kept: which way it was written does not come back
abbrev pub match_if : Bool → List ℕ → Match
match_if true block = record {
  given = 1;
  tail = match_tail_number Kept;
  id = text_at block 701 50;
  game = number_at block 752 4;
  tiebreaker = number_at block 756 4;
}
match_if false block = record { given = 0; tail = 0; id = no_text; game = 0; tiebreaker = 0 }

-- a nonzero flag is true
unfoldable pub start_in : Version → List ℕ → Start
start_in v block = record {
  bitfield = part block 4 4;
  is_raining_bombs = flag_of (byte_at block 10);
  is_teams = flag_of (byte_at block 12);
  item_spawn_frequency = byte_at block 15;
  self_destruct_score = byte_at block 16;
  stage = number_at block 18 2;
  timer = number_at block 20 4;
  item_spawn_bitfield = part block 39 5;
  damage_ratio = number_at block 52 4;
  seats = ranged (λ n. seat_in v block n ∷ []) 0 4;
  random_seed = number_at block 316 4;
  is_pal = optional_if (reaches v pal_from) (flag_of (byte_at block 416));
  is_frozen_ps = optional_if (reaches v frozen_from) (flag_of (byte_at block 417));
  scene = scene_if (reaches v scene_from) block;
  language = optional_if (reaches v language_from) (byte_at block 700);
  match_info = match_if (reaches v match_from) block;
}
