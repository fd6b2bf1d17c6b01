-- The start that comes back from a block, field by field, against the start that was written.
-- Assumes nothing.
use Rattle.std.specs.Prelude.{ℕ, ◌<◌, true, false, ◌≡◌, eqb, length, get_or}
use Rattle.format.specs.Mark.{yes, mark_if, flag_of}
use Rattle.format.specs.declared.version.Version.{Version}
use Rattle.game.specs.Zero.{no_seat}
use Rattle.game.specs.MatchTails.{match_tail_of}
use Rattle.game.specs.declared.start.MatchTail.TheVariants.{Kept}
use Rattle.game.specs.declared.start.Seat.{Seat}
use Rattle.game.specs.declared.start.Start.{Start}
use Rattle.patch.specs.Field.{text}
use Rattle.start.specs.Gate.{reaches, ucf_from, tag_from, pal_from, frozen_from, scene_from, netplay_from, suid_from, language_from, match_from}

-- the player r for the player p, in a game whose mark for teams is this: what the version lacks is not given, a team comes back where the game has
-- teams, and it is that of p where p had one; the level only of a CPU
pub record SeatReturned (v : Version) (teams : ℕ) (p r : Seat) : Type 0 where
  pub given : r.given ≡ 1
  pub character : r.character ≡ p.character
  pub kind : r.kind ≡ p.kind
  pub stocks : r.stocks ≡ p.stocks
  pub costume : r.costume ≡ p.costume
  pub team_given : r.team.given ≡ flag_of teams
  pub color : yes teams ≡ true → yes p.team.given ≡ true → r.team.color ≡ p.team.color
  pub shade : yes teams ≡ true → yes p.team.given ≡ true → r.team.shade ≡ p.team.shade
  pub handicap : r.handicap ≡ p.handicap
  pub bitfield : r.bitfield ≡ p.bitfield
  pub level_given : r.cpu_level.given ≡ mark_if (eqb p.kind 1)
  pub level : p.kind ≡ 1 → r.cpu_level.value ≡ p.cpu_level.value
  pub damage_start : r.damage_start ≡ p.damage_start
  pub damage_spawn : r.damage_spawn ≡ p.damage_spawn
  pub offense : r.offense_ratio ≡ p.offense_ratio
  pub defense : r.defense_ratio ≡ p.defense_ratio
  pub scale : r.model_scale ≡ p.model_scale
  pub ucf_given : r.ucf.given ≡ mark_if (reaches v ucf_from)
  pub dash_back : reaches v ucf_from ≡ true → r.ucf.dash_back ≡ p.ucf.dash_back
  pub shield_drop : reaches v ucf_from ≡ true → r.ucf.shield_drop ≡ p.ucf.shield_drop
  pub tag_given : r.name_tag_given ≡ mark_if (reaches v tag_from)
  pub tag : reaches v tag_from ≡ true → text r.name_tag ≡ text p.name_tag
  pub netplay_given : r.netplay.given ≡ mark_if (reaches v netplay_from)
  pub name : reaches v netplay_from ≡ true → text r.netplay.name ≡ text p.netplay.name
  pub code : reaches v netplay_from ≡ true → text r.netplay.code ≡ text p.netplay.code
  pub suid_given : r.netplay.suid_given ≡ mark_if (reaches v suid_from)
  pub suid : reaches v suid_from ≡ true → text r.netplay.suid ≡ text p.netplay.suid

-- the start r for the start s: marks come back as 0 and 1, and nobody as nobody; which way the match id's tail was written does not come back
pub record StartReturned (v : Version) (s r : Start) : Type 0 where
  pub bitfield : r.bitfield ≡ s.bitfield
  pub raining_bombs : r.is_raining_bombs ≡ flag_of s.is_raining_bombs
  pub teams : r.is_teams ≡ flag_of s.is_teams
  pub frequency : r.item_spawn_frequency ≡ s.item_spawn_frequency
  pub score : r.self_destruct_score ≡ s.self_destruct_score
  pub stage : r.stage ≡ s.stage
  pub timer : r.timer ≡ s.timer
  pub items : r.item_spawn_bitfield ≡ s.item_spawn_bitfield
  pub damage_ratio : r.damage_ratio ≡ s.damage_ratio
  pub four : length r.seats ≡ 4
  pub there : (n : ℕ) → n < 4 → yes (get_or s.seats n no_seat).given ≡ true → SeatReturned v s.is_teams (get_or s.seats n no_seat) (get_or r.seats n no_seat)
  pub absent : (n : ℕ) → n < 4 → yes (get_or s.seats n no_seat).given ≡ false → get_or r.seats n no_seat ≡ no_seat
  pub seed : r.random_seed ≡ s.random_seed
  pub pal_given : r.is_pal.given ≡ mark_if (reaches v pal_from)
  pub pal : reaches v pal_from ≡ true → r.is_pal.value ≡ flag_of s.is_pal.value
  pub frozen_given : r.is_frozen_ps.given ≡ mark_if (reaches v frozen_from)
  pub frozen : reaches v frozen_from ≡ true → r.is_frozen_ps.value ≡ flag_of s.is_frozen_ps.value
  pub scene_given : r.scene.given ≡ mark_if (reaches v scene_from)
  pub minor : reaches v scene_from ≡ true → r.scene.minor ≡ s.scene.minor
  pub major : reaches v scene_from ≡ true → r.scene.major ≡ s.scene.major
  pub language_given : r.language.given ≡ mark_if (reaches v language_from)
  pub language : reaches v language_from ≡ true → r.language.value ≡ s.language.value
  pub match_given : r.match_info.given ≡ mark_if (reaches v match_from)
  pub tail : reaches v match_from ≡ true → match_tail_of r.match_info.tail ≡ Kept
  pub id : reaches v match_from ≡ true → text r.match_info.id ≡ text s.match_info.id
  pub game : reaches v match_from ≡ true → r.match_info.game ≡ s.match_info.game
  pub tiebreaker : reaches v match_from ≡ true → r.match_info.tiebreaker ≡ s.match_info.tiebreaker
