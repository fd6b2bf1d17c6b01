-- The start block: a template with a start's fields stored over it.
-- Assumes nothing.
use Rattle.std.specs.Prelude.{ℕ, ◌+◌, ◌*◌, ◌-◌, List, [], ◌∷◌, ◌++◌, eqb, replicate}
use Rattle.wire.specs.Wire.{be, keep}
use Rattle.format.specs.declared.version.Version.{Version}
use Rattle.format.specs.Mark.{yes, flag_of}
use Rattle.patch.specs.Patch.{Patch, patch, patched}
use Rattle.patch.specs.Field.{text, zero_filled}
use Rattle.start.specs.declared.gate.Gate.{Gate}
use Rattle.start.specs.Gate.{reaches, ucf_from, tag_from, pal_from, frozen_from, scene_from, netplay_from, suid_from, language_from, match_from}
use Rattle.game.specs.declared.start.Text.{Text}
use Rattle.game.specs.declared.start.Seat.{Seat}
use Rattle.game.specs.declared.start.Match.{Match}
use Rattle.game.specs.declared.start.MatchTail.{MatchTail}
use Rattle.game.specs.declared.start.MatchTail.TheVariants.{Cleared, Kept}
use Rattle.game.specs.MatchTails.{match_tail_of}
use Rattle.game.specs.declared.start.Start.{Start}

-- ---- what the versions from a gate on write

abbrev pub from : Version → Gate → List Patch → List Patch
from v g ps = keep (reaches v g) ps

abbrev pub number_field : Version → Gate → ℕ → ℕ → ℕ → List Patch
number_field v g at width x = from v g (patch at (be width x) ∷ [])

abbrev pub text_field : Version → Gate → ℕ → ℕ → Text → List Patch
text_field v g at width t = from v g (patch at (zero_filled width t) ∷ [])

-- ---- what every version writes

unfoldable pub game_fields : Version → Start → List Patch
game_fields v s =
    patch 0 (be 1 v.major)
    ∷ patch 1 (be 1 v.minor)
    ∷ patch 2 (be 1 v.patch)
    ∷ patch 10 (be 1 (flag_of s.is_raining_bombs))
    ∷ patch 12 (be 1 (flag_of s.is_teams))
    ∷ patch 15 (be 1 s.item_spawn_frequency)
    ∷ patch 16 (be 1 s.self_destruct_score)
    ∷ patch 18 (be 2 s.stage)
    ∷ patch 20 (be 4 s.timer)
    ∷ patch 52 (be 4 s.damage_ratio)
    ∷ patch 316 (be 4 s.random_seed)
    ∷ patch 4 s.bitfield
    ∷ patch 39 s.item_spawn_bitfield
    ∷ []

-- a player's 36 bytes: shade and colour only with a team, the level only of a CPU
unfoldable pub player_fields : ℕ → Seat → List Patch
player_fields at p =
    patch (at + 0) (be 1 p.character)
    ∷ patch (at + 1) (be 1 p.kind)
    ∷ patch (at + 2) (be 1 p.stocks)
    ∷ patch (at + 3) (be 1 p.costume)
    ∷ patch (at + 7) (keep (yes p.team.given) (be 1 p.team.shade))
    ∷ patch (at + 8) (be 1 p.handicap)
    ∷ patch (at + 9) (keep (yes p.team.given) (be 1 p.team.color))
    ∷ patch (at + 12) (be 1 p.bitfield)
    ∷ patch (at + 15) (keep (eqb p.kind 1) (be 1 p.cpu_level.value))
    ∷ patch (at + 16) (be 2 p.damage_start)
    ∷ patch (at + 18) (be 2 p.damage_spawn)
    ∷ patch (at + 24) (be 4 p.offense_ratio)
    ∷ patch (at + 28) (be 4 p.defense_ratio)
    ∷ patch (at + 32) (be 4 p.model_scale)
    ∷ []

-- the texts of the player of port n
unfoldable pub text_fields : Version → ℕ → Seat → List Patch
text_fields v n p =
    text_field v tag_from (352 + 16 * n) 16 p.name_tag
    ++ (text_field v netplay_from (420 + 31 * n) 31 p.netplay.name
    ++ (text_field v netplay_from (544 + 10 * n) 10 p.netplay.code
    ++ text_field v suid_from (584 + 29 * n) 29 p.netplay.suid))

-- the player of port n
unfoldable pub port_fields : Version → ℕ → Seat → List Patch
port_fields v n p =
    player_fields (100 + 36 * n) p
    ++ (number_field v ucf_from (320 + 8 * n) 4 p.ucf.dash_back
    ++ (number_field v ucf_from (324 + 8 * n) 4 p.ucf.shield_drop
    ++ text_fields v n p))

-- the players from port n on, where there are any
unfoldable pub seats_fields : Version → ℕ → List Seat → List Patch
seats_fields v n [] = []
seats_fields v n (p ∷ ps) = keep (yes p.given) (port_fields v n p) ++ seats_fields v (n + 1) ps

unfoldable pub mode_fields : Version → Start → List Patch
mode_fields v s =
    number_field v pal_from 416 1 (flag_of s.is_pal.value)
    ++ (number_field v frozen_from 417 1 (flag_of s.is_frozen_ps.value)
    ++ (number_field v scene_from 418 1 s.scene.minor
    ++ (number_field v scene_from 419 1 s.scene.major
    ++ number_field v language_from 700 1 s.language.value)))

-- the match id ends with one zero
abbrev pub match_id : Text → Patch
match_id id = patch 701 (text id ++ (0 ∷ []))

-- the bytes after that, through 751: zeros, or what the template has there
abbrev pub match_tail : MatchTail → ℕ → Patch
match_tail Cleared len = patch (702 + len) (replicate (50 - len) 0)
match_tail Kept len = patch (702 + len) []

unfoldable pub match_fields : Version → Match → List Patch
match_fields v m = from v match_from (match_id m.id ∷ match_tail (match_tail_of m.tail) m.id.len ∷ patch 752 (be 4 m.game) ∷ patch 756 (be 4 m.tiebreaker) ∷ [])

unfoldable pub fields : Version → Start → List Patch
fields v s = game_fields v s ++ (seats_fields v 0 s.seats ++ (mode_fields v s ++ match_fields v s.match_info))

unfoldable pub start_block : Version → Start → List ℕ → List ℕ
start_block v s template = patched template (fields v s)
