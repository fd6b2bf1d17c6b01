-- A start as its types say it: arrays of their lengths, and numbers within their widths.
-- Assumes nothing.
use Rattle.std.specs.Prelude.{ℕ, ◌<◌, ◌≡◌, List, length, get_or}
use Rattle.game.specs.Zero.{no_seat}
use Rattle.game.specs.declared.start.Text.{Text}
use Rattle.game.specs.declared.start.Seat.{Seat}
use Rattle.game.specs.declared.start.Start.{Start}

abbrev pub U8 : ℕ → Type 0
U8 x = x < 256

abbrev pub U16 : ℕ → Type 0
U16 x = x < 65536

abbrev pub U32 : ℕ → Type 0
U32 x = x < 4294967296

-- each is a byte
pub record BytesDeclared (xs : List ℕ) : Type 0 where
  pub byte : (i : ℕ) → U8 (get_or xs i 0)

pub record TextDeclared (t : Text) : Type 0 where
  pub long : length t.bytes ≡ 50
  pub small : BytesDeclared t.bytes

pub record SeatDeclared (p : Seat) : Type 0 where
  pub character : U8 p.character
  pub kind : U8 p.kind
  pub stocks : U8 p.stocks
  pub costume : U8 p.costume
  pub color : U8 p.team.color
  pub shade : U8 p.team.shade
  pub handicap : U8 p.handicap
  pub bitfield : U8 p.bitfield
  pub level : U8 p.cpu_level.value
  pub start : U16 p.damage_start
  pub spawn : U16 p.damage_spawn
  pub offense : U32 p.offense_ratio
  pub defense : U32 p.defense_ratio
  pub scale : U32 p.model_scale
  pub dash : U32 p.ucf.dash_back
  pub drop : U32 p.ucf.shield_drop
  pub tag : TextDeclared p.name_tag
  pub name : TextDeclared p.netplay.name
  pub code : TextDeclared p.netplay.code
  pub suid : TextDeclared p.netplay.suid

pub record Declared (s : Start) : Type 0 where
  pub four : length s.bitfield ≡ 4
  pub bits : BytesDeclared s.bitfield
  pub frequency : U8 s.item_spawn_frequency
  pub score : U8 s.self_destruct_score
  pub stage : U16 s.stage
  pub timer : U32 s.timer
  pub five : length s.item_spawn_bitfield ≡ 5
  pub items : BytesDeclared s.item_spawn_bitfield
  pub ratio : U32 s.damage_ratio
  pub seats : length s.seats ≡ 4
  pub each : (n : ℕ) → n < 4 → SeatDeclared (get_or s.seats n no_seat)
  pub seed : U32 s.random_seed
  pub minor : U8 s.scene.minor
  pub major : U8 s.scene.major
  pub language : U8 s.language.value
  pub id : TextDeclared s.match_info.id
  pub game : U32 s.match_info.game
  pub tiebreaker : U32 s.match_info.tiebreaker
