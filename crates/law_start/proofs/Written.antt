-- A block as it was written: each field of the start stands there, and a seat that is not given has the template's type.
-- Assumes nothing.
use mathlib.Core.Path.{◌≡◌, ◌∙◌}
use mathlib.Core.Bool.{Bool, true, false, ◌&&◌}
use mathlib.Core.List.{List, [], ◌∷◌, ◌++◌, map}
use Prim.Native.Nat.{ℕ, zero, suc, ◌+◌, ◌*◌, ◌≤◌, ◌<◌}
use native.Mathlib.Omega.{arith}
use borrow.Author.Tests.{eq-eqb, ne_eqb, ltb-false}
use lib.ListN.{length, get_or}
use Rattle.wire.specs.Wire.{be, keep}
use Rattle.format.specs.Mark.{yes, flag_of}
use Rattle.format.specs.Refusal.{one_of}
use Rattle.format.specs.declared.version.Version.{Version}
use Rattle.format.proofs.Tests.{one_passed, rest_each}
use Rattle.game.specs.Zero.{no_seat}
use Rattle.game.specs.declared.start.Seat.{Seat}
use Rattle.game.specs.declared.start.Start.{Start}
use Rattle.patch.specs.Patch.{Patch, patch}
use Rattle.patch.proofs.Patches.{length_patched}
use Rattle.patch.proofs.Positions.{Misses, misses_append, patched_other}
use Rattle.start.specs.Gate.{ucf_from, tag_from, pal_from, frozen_from, scene_from, netplay_from, suid_from, language_from}
use Rattle.start.specs.Length.{length_of}
use Rattle.start.specs.Refusal.{type_above2, bad_seat, bad_start}
use Rattle.start.specs.Block.{game_fields, number_field, text_field, player_fields, text_fields, port_fields, seats_fields, mode_fields, match_fields, fields, start_block}
use Rattle.start.proofs.Refusals.{good_start}
use Rattle.read_start.specs.Start.{byte_at, player_in, seat_in}
use Rattle.law_start.specs.Declared.{Declared}
use Rattle.law_start.proofs.Stand.{Stands, Standing, standing_first, standing_second, kept_standing}
use Rattle.law_start.proofs.Order.{own_player, rank, misses_below, misses_above, all_stand}
use Rattle.law_start.proofs.Fields.{game_spans, seat_spans, seats_spans, fields_spans, fields_after}
use Rattle.law_start.proofs.Values.{byte_back}

unasked : (a b : Bool) → (a && b) ≡ false → a ≡ true → b ≡ false
unasked true b e h = e
unasked false b e h = cc

-- a player who is there has a type of at most 2
pub low_type : (v : Version) (p : Seat) → bad_seat v p ≡ false → yes p.given ≡ true → p.kind ≤ 2
unfolding bad_seat type_above2
low_type v p e on =
    let a = one_passed _ _ (unasked (yes p.given) _ e on) in
    ltb-false 2 p.kind (one_passed _ _ a.1).0

-- ---- the fields of a port, and of the modes, one by one

pub record Port (v : Version) (n : ℕ) (p : Seat) (block : List ℕ) : Type 0 where
  pub player : Standing block (player_fields (100 + 36 * n) p)
  pub dash : Standing block (number_field v ucf_from (320 + 8 * n) 4 p.ucf.dash_back)
  pub drop : Standing block (number_field v ucf_from (324 + 8 * n) 4 p.ucf.shield_drop)
  pub tag : Standing block (text_field v tag_from (352 + 16 * n) 16 p.name_tag)
  pub name : Standing block (text_field v netplay_from (420 + 31 * n) 31 p.netplay.name)
  pub code : Standing block (text_field v netplay_from (544 + 10 * n) 10 p.netplay.code)
  pub suid : Standing block (text_field v suid_from (584 + 29 * n) 29 p.netplay.suid)

port_fields_lem : (v : Version) (n : ℕ) (p : Seat) (block : List ℕ) → Standing block (port_fields v n p) → Port v n p block
unfolding port_fields text_fields
port_fields_lem v n p block s =
    let a = standing_second block (player_fields (100 + 36 * n) p) _ s in
    let b = standing_second block (number_field v ucf_from (320 + 8 * n) 4 p.ucf.dash_back) _ a in
    let c = standing_second block (number_field v ucf_from (324 + 8 * n) 4 p.ucf.shield_drop) _ b in
    let d = standing_second block (text_field v tag_from (352 + 16 * n) 16 p.name_tag) _ c in
    let e = standing_second block (text_field v netplay_from (420 + 31 * n) 31 p.netplay.name) _ d in
    record {
      player = standing_first block (player_fields (100 + 36 * n) p) _ s;
      dash = standing_first block (number_field v ucf_from (320 + 8 * n) 4 p.ucf.dash_back) _ a;
      drop = standing_first block (number_field v ucf_from (324 + 8 * n) 4 p.ucf.shield_drop) _ b;
      tag = standing_first block (text_field v tag_from (352 + 16 * n) 16 p.name_tag) _ c;
      name = standing_first block (text_field v netplay_from (420 + 31 * n) 31 p.netplay.name) _ d;
      code = standing_first block (text_field v netplay_from (544 + 10 * n) 10 p.netplay.code) _ e;
      suid = standing_second block (text_field v netplay_from (544 + 10 * n) 10 p.netplay.code) _ e;
    }

pub record Modes (v : Version) (s : Start) (block : List ℕ) : Type 0 where
  pub pal : Standing block (number_field v pal_from 416 1 (flag_of s.is_pal.value))
  pub frozen : Standing block (number_field v frozen_from 417 1 (flag_of s.is_frozen_ps.value))
  pub minor : Standing block (number_field v scene_from 418 1 s.scene.minor)
  pub major : Standing block (number_field v scene_from 419 1 s.scene.major)
  pub language : Standing block (number_field v language_from 700 1 s.language.value)

mode_fields_lem : (v : Version) (s : Start) (block : List ℕ) → Standing block (mode_fields v s) → Modes v s block
unfolding mode_fields
mode_fields_lem v s block m =
    let a = standing_second block (number_field v pal_from 416 1 (flag_of s.is_pal.value)) _ m in
    let b = standing_second block (number_field v frozen_from 417 1 (flag_of s.is_frozen_ps.value)) _ a in
    let c = standing_second block (number_field v scene_from 418 1 s.scene.minor) _ b in
    record {
      pal = standing_first block (number_field v pal_from 416 1 (flag_of s.is_pal.value)) _ m;
      frozen = standing_first block (number_field v frozen_from 417 1 (flag_of s.is_frozen_ps.value)) _ a;
      minor = standing_first block (number_field v scene_from 418 1 s.scene.minor) _ b;
      major = standing_first block (number_field v scene_from 419 1 s.scene.major) _ c;
      language = standing_second block (number_field v scene_from 419 1 s.scene.major) _ c;
    }

-- ---- a port among the seats

seat_among : (v : Version) (block : List ℕ) (m k n : ℕ) (ps : List Seat) → m + k ≡ n → k < length ps → Standing block (seats_fields v m ps)
    → Standing block (keep (yes (get_or ps k no_seat).given) (port_fields v n (get_or ps k no_seat)))
unfolding seats_fields
seat_among v block m k n [] e h s = absurd (omega arith)
seat_among v block m zero n (p ∷ ps) e h s = let q : m ≡ n = omega arith in rw q at (standing_first block (keep (yes p.given) (port_fields v m p)) _ s)
seat_among v block m (suc k) n (p ∷ ps) e h s =
    seat_among v block (m + 1) k n ps (omega arith) (omega arith) (standing_second block (keep (yes p.given) (port_fields v m p)) _ s)

-- the type of port n
rank_type : (n : ℕ) → n < 4 → rank (101 + 36 * n) ≡ (2 + n) * 1000 + (101 + 36 * n)
unfolding rank
rank_type n h = rw (own_player (101 + 36 * n) n h (omega arith) (omega arith))

absent : (i : ℕ) (on : Bool) (ps : List Patch) → on ≡ false → Misses i (keep on ps)
unfolding keep Misses
absent i on ps e = rw e tt

type_missed : (v : Version) (m k n : ℕ) (ps : List Seat) → m + k ≡ n → k < length ps → m + length ps ≤ 4 → one_of (map (bad_seat v) ps) ≡ false
    → yes (get_or ps k no_seat).given ≡ false → Misses (101 + 36 * n) (seats_fields v m ps)
unfolding seats_fields
type_missed v m k n [] e h l good off = absurd (omega arith)
type_missed v m zero n (p ∷ ps) e h l good off =
    let r = rank_type n (omega arith) in
    misses_append (101 + 36 * n) (keep (yes p.given) (port_fields v m p)) _ (absent (101 + 36 * n) (yes p.given) (port_fields v m p) off)
    (misses_below (length_of v) _ (seats_fields v (m + 1) ps) 6000 (101 + 36 * n) (seats_spans v (m + 1) ps (omega arith) (one_passed (bad_seat v p) (map (bad_seat v) ps) good).1) (omega (arith, r)))
type_missed v m (suc k) n (p ∷ ps) e h l good off =
    let r = rank_type n (omega arith) in
    let (here, later) = one_passed (bad_seat v p) (map (bad_seat v) ps) good in
    misses_append (101 + 36 * n) (keep (yes p.given) (port_fields v m p)) _
    (misses_above (length_of v) _ (keep (yes p.given) (port_fields v m p)) _ (101 + 36 * n) (seat_spans v m (omega arith) p here) (omega (arith, r)))
    (type_missed v (m + 1) k n ps (omega arith) (omega arith) (omega arith) later off)

-- ---- the block

module _ (v : Version) (s : Start) (t : List ℕ) (d : Declared s) (good : bad_start v s ≡ false) (long : length_of v ≤ length t) where
  abbrev pub written : List ℕ
  written = start_block v s t

  pub length_written : length written ≡ length t
  unfolding start_block
  length_written = length_patched t (fields v s)

  pub all_standing : Standing written (fields v s)
  unfolding start_block
  all_standing = all_stand (length_of v) t 0 (fields v s) 8000 long (fields_spans v s d.four d.five d.seats good)

  pub game_standing : Standing written (game_fields v s)
  unfolding fields
  game_standing = standing_first written (game_fields v s) _ all_standing

  after_game : Standing written (seats_fields v 0 s.seats ++ (mode_fields v s ++ match_fields v s.match_info))
  unfolding fields
  after_game = standing_second written (game_fields v s) _ all_standing

  pub modes_standing : Modes v s written
  modes_standing = mode_fields_lem v s written (standing_first written (mode_fields v s) _ (standing_second written (seats_fields v 0 s.seats) _ after_game))

  pub match_standing : Standing written (match_fields v s.match_info)
  match_standing = standing_second written (mode_fields v s) _ (standing_second written (seats_fields v 0 s.seats) _ after_game)

  module _ (n : ℕ) (few : n < 4) where
    abbrev pub seat : Seat
    seat = get_or s.seats n no_seat

    pub sound : bad_seat v seat ≡ false
    sound = rest_each no_seat (bad_seat v) s.seats (good_start v s good).0 n (omega (arith, d.seats))

    pub port_standing : yes seat.given ≡ true → Port v n seat written
    port_standing on =
        port_fields_lem v n seat written
        (kept_standing written (yes seat.given) (port_fields v n seat) on
        (seat_among v written 0 n n s.seats (omega arith) (omega (arith, d.seats)) (standing_first written (seats_fields v 0 s.seats) _ after_game)))

    pub type_stays : yes seat.given ≡ false → byte_at written (101 + 36 * n) ≡ byte_at t (101 + 36 * n)
    unfolding start_block fields
    type_stays off =
        let r = rank_type n few in
        let (sound, fits, whole) = good_start v s good in
        patched_other t (fields v s) (101 + 36 * n)
        (misses_append _ (game_fields v s) _ (misses_above (length_of v) 0 (game_fields v s) 2000 _ (game_spans v s d.four d.five) (omega (arith, r)))
        (misses_append _ (seats_fields v 0 s.seats) _ (type_missed v 0 n n s.seats (omega arith) (omega (arith, d.seats)) (omega (arith, d.seats)) sound off)
        (misses_below (length_of v) 6000 (mode_fields v s ++ match_fields v s.match_info) 8000 _ (fields_after v s good) (omega (arith, r)))))

    type_written : yes seat.given ≡ true → Stands written (patch (100 + 36 * n + 1) (be 1 seat.kind))
    unfolding player_fields Standing
    type_written on = (port_standing on).player.1.0

    pub type_given : yes seat.given ≡ true → byte_at written (101 + 36 * n) ≤ 2
    type_given on =
        let same : 100 + 36 * n + 1 ≡ 101 + 36 * n = omega arith in
        let low = low_type v seat sound on in
        let e = rw same at (byte_back written (100 + 36 * n + 1) seat.kind (omega arith) (type_written on)) in
        omega (arith, e, low)

    -- a player who was given is read as one, and nobody as nobody
    pub seat_given : yes seat.given ≡ true → seat_in v written n ≡ player_in v written n
    unfolding seat_in
    seat_given on = rw (ne_eqb (byte_at written (101 + 36 * n)) 3 (λ q. omega (arith, type_given on, q)))

    pub seat_empty : yes seat.given ≡ false → byte_at t (101 + 36 * n) ≡ 3 → seat_in v written n ≡ no_seat
    unfolding seat_in
    seat_empty off e = rw (eq-eqb (byte_at written (101 + 36 * n)) 3 (type_stays off ∙ e))
