-- Which start blocks and which starts are refused. A mark is a byte: nonzero is yes.
-- Assumes nothing.
use Rattle.std.specs.Prelude.{ℕ, Bool, ◌&&◌, ◌||◌, [], ◌∷◌, map, ltb, eqb}
use Rattle.format.specs.Mark.{no, yes}
use Rattle.format.specs.Refusal.{one_of}
use Rattle.format.specs.declared.version.Version.{Version}
use Rattle.patch.specs.Field.{zero_inside}
use Rattle.start.specs.declared.gate.Gate.{Gate}
use Rattle.start.specs.Gate.{reaches, ucf_from, tag_from, pal_from, frozen_from, scene_from, netplay_from, suid_from, language_from, match_from}
use Rattle.start.specs.Length.{length_of}
use Rattle.game.specs.declared.start.Text.{Text}
use Rattle.game.specs.declared.start.Seat.{Seat}
use Rattle.game.specs.declared.start.Start.{Start}

-- 8: the block is shorter than the version's length, or over 65,535
unfoldable pub block_wrong : Version → ℕ → Bool
block_wrong v n = ltb n (length_of v) || ltb 65535 n

-- a field that v writes is missing, as its mark says
unfoldable pub missing : Version → Gate → ℕ → Bool
missing v g mark = reaches v g && no mark

-- a text that v writes has more bytes than its limit
unfoldable pub too_long : Version → Gate → ℕ → Text → Bool
too_long v g limit t = reaches v g && ltb limit t.len

-- a text that v writes has a zero byte among its counted bytes: a viewer would stop there
unfoldable pub holds_zero : Version → Gate → Text → Bool
holds_zero v g t = reaches v g && zero_inside t

-- ---- of a player who is there

unfoldable pub field_missing : Version → Seat → Bool
field_missing v p =
    one_of
    (missing v ucf_from p.ucf.given
    ∷ missing v tag_from p.name_tag_given
    ∷ missing v netplay_from p.netplay.given
    ∷ missing v suid_from p.netplay.suid_given
    ∷ [])

unfoldable pub type_above2 : Seat → Bool
type_above2 p = ltb 2 p.kind

unfoldable pub cpu_without_level : Seat → Bool
cpu_without_level p = eqb p.kind 1 && no p.cpu_level.given

unfoldable pub text_too_long : Version → Seat → Bool
text_too_long v p =
    one_of
    (too_long v tag_from 16 p.name_tag
    ∷ too_long v netplay_from 30 p.netplay.name
    ∷ too_long v netplay_from 9 p.netplay.code
    ∷ too_long v suid_from 28 p.netplay.suid
    ∷ [])

unfoldable pub text_holds_zero : Version → Seat → Bool
text_holds_zero v p =
    one_of
    (holds_zero v tag_from p.name_tag
    ∷ holds_zero v netplay_from p.netplay.name
    ∷ holds_zero v netplay_from p.netplay.code
    ∷ holds_zero v suid_from p.netplay.suid
    ∷ [])

unfoldable pub bad_seat : Version → Seat → Bool
bad_seat v p = yes p.given && one_of (field_missing v p ∷ type_above2 p ∷ cpu_without_level p ∷ text_too_long v p ∷ text_holds_zero v p ∷ [])

-- ---- 9: of the start

unfoldable pub bad_start : Version → Start → Bool
bad_start v s =
    one_of
    (one_of (map (bad_seat v) s.seats)
    ∷ missing v pal_from s.is_pal.given
    ∷ missing v frozen_from s.is_frozen_ps.given
    ∷ missing v scene_from s.scene.given
    ∷ missing v language_from s.language.given
    ∷ missing v match_from s.match_info.given
    ∷ too_long v match_from 50 s.match_info.id
    ∷ holds_zero v match_from s.match_info.id
    ∷ [])
