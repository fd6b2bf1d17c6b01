-- A start block that was written is written again, byte for byte, from the start that is read in it.
-- Assumes nothing.
use mathlib.Core.Path.{◌≡◌, refl}
use mathlib.Core.Bool.{Bool, true, false}
use mathlib.Core.List.{List, [], ◌∷◌}
use Prim.Native.Nat.{ℕ, ◌+◌, ◌*◌, ◌≤◌, ◌<◌}
use native.Mathlib.Omega.{arith}
use lib.Dec.{eqb}
use lib.ListN.{length, get_or}
use Rattle.wire.specs.Wire.{be, keep, ranged}
use Rattle.format.specs.Mark.{yes, flag_of}
use Rattle.format.specs.declared.version.Version.{Version}
use Rattle.game.specs.Zero.{no_seat}
use Rattle.game.specs.MatchTails.{match_tail_of}
use Rattle.game.specs.declared.start.Text.{Text}
use Rattle.game.specs.declared.start.Seat.{Seat}
use Rattle.game.specs.declared.start.Match.{Match}
use Rattle.game.specs.declared.start.Start.{Start}
use Rattle.patch.specs.Patch.{Patch, patch}
use Rattle.patch.specs.Field.{zero_filled, zero_inside}
use Rattle.start.specs.declared.gate.Gate.{Gate}
use Rattle.start.specs.Gate.{reaches, ucf_from, tag_from, pal_from, frozen_from, scene_from, netplay_from, suid_from, language_from, match_from}
use Rattle.start.specs.Length.{length_of}
use Rattle.start.specs.Refusal.{bad_start}
use Rattle.start.specs.Block.{game_fields, number_field, text_field, player_fields, text_fields, port_fields, seats_fields, mode_fields, match_id, match_tail, match_fields, fields, start_block}
use Rattle.start.proofs.Lengths.{at_least, long_enough}
use Rattle.start.proofs.Refusals.{short_texts, seat_texts, clean_texts, short_text, clean_text, good_start}
use Rattle.read_start.specs.Start.{byte_at, optional_if, team_if, ucf_if, text_if, player_in, seat_in, scene_if, match_if, start_in}
use Rattle.law_start.specs.Declared.{BytesDeclared, TextDeclared, Declared}
use Rattle.law_start.proofs.Stand.{Stands, Standing, standing_append, patched_standing}
use Rattle.law_start.proofs.Small.{block_bytes_lem}
use Rattle.law_start.proofs.Values.{stands_byte, stands_two, stands_four, stands_part, stands_none, stands_flag, stands_text, stands_id}
use Rattle.law_start.proofs.Written as written

module _ (block : List ℕ) where
  one : {p : Patch} (ps : List Patch) → Stands block p → Standing block ps → Standing block (p ∷ ps)
  unfolding Standing
  one ps a b = (a, b)

  end : Standing block []
  unfolding Standing
  end = tt

  -- ---- what the versions from a gate on have

  module _ (small : BytesDeclared block) where
    shade_again : (on : Bool) (at : ℕ) → at + 36 ≤ length block → Stands block (patch (at + 7) (keep (yes (team_if on block at).given) (be 1 (team_if on block at).shade)))
    unfolding keep
    shade_again true at h = stands_byte block small (at + 7) (omega arith)
    shade_again false at h = stands_none block (at + 7)

    color_again : (on : Bool) (at : ℕ) → at + 36 ≤ length block → Stands block (patch (at + 9) (keep (yes (team_if on block at).given) (be 1 (team_if on block at).color)))
    unfolding keep
    color_again true at h = stands_byte block small (at + 9) (omega arith)
    color_again false at h = stands_none block (at + 9)

    level_again : (on : Bool) (at : ℕ) → at < length block → Stands block (patch at (keep on (be 1 (optional_if on (byte_at block at)).value)))
    unfolding keep
    level_again true at h = stands_byte block small at h
    level_again false at h = stands_none block at

    dash_again : (on : Bool) (n : ℕ) → (on ≡ true → 320 + 8 * n + 4 ≤ length block) → Standing block (keep on (patch (320 + 8 * n) (be 4 (ucf_if on block n).dash_back) ∷ []))
    unfolding keep
    dash_again true n h = one _ (stands_four block small (320 + 8 * n) (h refl)) end
    dash_again false n h = end

    drop_again : (on : Bool) (n : ℕ) → (on ≡ true → 324 + 8 * n + 4 ≤ length block) → Standing block (keep on (patch (324 + 8 * n) (be 4 (ucf_if on block n).shield_drop) ∷ []))
    unfolding keep
    drop_again true n h = one _ (stands_four block small (324 + 8 * n) (h refl)) end
    drop_again false n h = end

    flag_again : (on : Bool) (at m : ℕ) → Standing block (keep on (patch at (be 1 (flag_of m)) ∷ [])) → Standing block (keep on (patch at (be 1 (flag_of (optional_if on (flag_of (byte_at block at))).value)) ∷ []))
    unfolding keep Standing
    flag_again true at m s = (stands_flag block at m s.0, tt)
    flag_again false at m s = tt

    minor_again : (on : Bool) → (on ≡ true → 420 ≤ length block) → Standing block (keep on (patch 418 (be 1 (scene_if on block).minor) ∷ []))
    unfolding keep
    minor_again true h = one _ (stands_byte block small 418 (omega (arith, h refl))) end
    minor_again false h = end

    major_again : (on : Bool) → (on ≡ true → 420 ≤ length block) → Standing block (keep on (patch 419 (be 1 (scene_if on block).major) ∷ []))
    unfolding keep
    major_again true h = one _ (stands_byte block small 419 (omega (arith, h refl))) end
    major_again false h = end

    language_again : (on : Bool) → (on ≡ true → 701 ≤ length block) → Standing block (keep on (patch 700 (be 1 (optional_if on (byte_at block 700)).value) ∷ []))
    unfolding keep
    language_again true h = one _ (stands_byte block small 700 (omega (arith, h refl))) end
    language_again false h = end

    text_again : (on : Bool) (at limit w : ℕ) (t : Text) → TextDeclared t → limit ≤ w → limit ≤ 50 → (on ≡ true → t.len ≤ limit) → (on ≡ true → zero_inside t ≡ false)
        → Standing block (keep on (patch at (zero_filled w t) ∷ [])) → Standing block (keep on (patch at (zero_filled w (text_if on block at limit)) ∷ []))
    unfolding keep Standing
    text_again true at limit w t d h l short clean s = (stands_text block at limit w t (omega (arith, d.long, short refl)) (clean refl) (short refl) h s.0, tt)
    text_again false at limit w t d h l short clean s = tt

    match_again : (on : Bool) (m : Match) → (on ≡ true → 760 ≤ length block) → TextDeclared m.id → (on ≡ true → m.id.len ≤ 50) → (on ≡ true → zero_inside m.id ≡ false)
        → Standing block (keep on (match_id m.id ∷ match_tail (match_tail_of m.tail) m.id.len ∷ patch 752 (be 4 m.game) ∷ patch 756 (be 4 m.tiebreaker) ∷ []))
        → let r = match_if on block in
        Standing block (keep on (match_id r.id ∷ match_tail (match_tail_of r.tail) r.id.len ∷ patch 752 (be 4 r.game) ∷ patch 756 (be 4 r.tiebreaker) ∷ []))
    unfolding keep Standing
    match_again true m room d short clean s = (
      stands_id block 701 m.id (omega (arith, d.long, short refl)) (clean refl) (short refl) s.0,
      (
        stands_none block _,
        (stands_four block small 752 (omega (arith, room refl)), (stands_four block small 756 (omega (arith, room refl)), tt)),
      ),
    )
    match_again false m room d short clean s = tt

    -- ---- the bytes that every version has of a player

    player_again : (v : Version) (n : ℕ) → n < 4 → 320 ≤ length block → Standing block (player_fields (100 + 36 * n) (player_in v block n))
    unfolding player_fields
    player_again v n few h =
        let at = 100 + 36 * n in
        let b : (k : ℕ) → k < 36 → Stands block (patch (at + k) (be 1 (byte_at block (at + k)))) = λ k l. stands_byte block small (at + k) (omega arith) in
        one _ (b 0 (omega arith)) (one _ (b 1 (omega arith)) (one _ (b 2 (omega arith)) (one _ (b 3 (omega arith))
        (one _ (shade_again (yes (byte_at block 12)) at (omega arith)) (one _ (b 8 (omega arith)) (one _ (color_again (yes (byte_at block 12)) at (omega arith)) (one _ (b 12 (omega arith))
        (one _ (level_again (eqb (byte_at block (at + 1)) 1) (at + 15) (omega arith))
        (one _ (stands_two block small (at + 16) (omega arith)) (one _ (stands_two block small (at + 18) (omega arith))
        (one _ (stands_four block small (at + 24) (omega arith)) (one _ (stands_four block small (at + 28) (omega arith)) (one _ (stands_four block small (at + 32) (omega arith)) end)))))))))))))

-- ---- a block that was written

module _ (v : Version) (s : Start) (t : List ℕ) (d : Declared s) (good : bad_start v s ≡ false) (long : length_of v ≤ length t) (small : BytesDeclared t) where
  abbrev block : List ℕ
  block = start_block v s t

  bytes : BytesDeclared block
  bytes = block_bytes_lem v s t d small

  room : length_of v ≤ length block
  room = rw (written.length_written v s t d good long) long

  low : 320 ≤ length block
  low = omega (arith, at_least v, room)

  fits : (k : ℕ) (g : Gate) → (reaches v g ≡ true → k ≤ length_of v) → reaches v g ≡ true → k ≤ length block
  fits k g h on = omega (arith, h on, room)

  game_again_lem : Standing block (game_fields v (start_in v block))
  unfolding game_fields start_in Standing
  game_again_lem =
      let g = written.game_standing v s t d good long in (
        g.0,
        (
          g.1.0,
          (
            g.1.1.0,
            (
              stands_flag block 10 s.is_raining_bombs g.1.1.1.0,
              (
                stands_flag block 12 s.is_teams g.1.1.1.1.0,
                (
                  stands_byte block bytes 15 (omega (arith, low)),
                  (
                    stands_byte block bytes 16 (omega (arith, low)),
                    (
                      stands_two block bytes 18 (omega (arith, low)),
                      (
                        stands_four block bytes 20 (omega (arith, low)),
                        (
                          stands_four block bytes 52 (omega (arith, low)),
                          (
                            stands_four block bytes 316 (omega (arith, low)),
                            (stands_part block 4 4 (omega (arith, low)), (stands_part block 39 5 (omega (arith, low)), tt)),
                          ),
                        ),
                      ),
                    ),
                  ),
                ),
              ),
            ),
          ),
        ),
      )

  modes_again : Standing block (mode_fields v (start_in v block))
  unfolding mode_fields start_in
  modes_again =
      let m = written.modes_standing v s t d good long in
      standing_append block (number_field v pal_from 416 1 _) _ (flag_again block bytes (reaches v pal_from) 416 s.is_pal.value m.pal)
      (standing_append block (number_field v frozen_from 417 1 _) _ (flag_again block bytes (reaches v frozen_from) 417 s.is_frozen_ps.value m.frozen)
      (standing_append block (number_field v scene_from 418 1 _) _ (minor_again block bytes (reaches v scene_from) (fits 420 scene_from (long_enough v 4)))
      (standing_append block (number_field v scene_from 419 1 _) _ (major_again block bytes (reaches v scene_from) (fits 420 scene_from (long_enough v 4)))
      (language_again block bytes (reaches v language_from) (fits 701 language_from (long_enough v 1))))))

  match_again_too : Standing block (match_fields v (start_in v block).match_info)
  unfolding match_fields start_in
  match_again_too =
      let (sound, short, whole) = good_start v s good in
      match_again block bytes (reaches v match_from) s.match_info (fits 760 match_from (long_enough v 0)) d.id (short_text v match_from 50 _ short) (clean_text v match_from _ whole)
      (written.match_standing v s t d good long)

  -- ---- the players

  module _ (n : ℕ) (few : n < 4) (on : yes (get_or s.seats n no_seat).given ≡ true) where
    abbrev seat : Seat
    seat = get_or s.seats n no_seat

    port_again : Standing block (port_fields v n (player_in v block n))
    unfolding port_fields text_fields
    port_again =
        let (whole, clear) = seat_texts v seat (written.sound v s t d good long n few) on in
        let short = short_texts v seat whole in
        let clean = clean_texts v seat clear in
        let e = d.each n few in
        let p = written.port_standing v s t d good long n few on in
        standing_append block (player_fields (100 + 36 * n) _) _ (player_again block bytes v n few low)
        (standing_append block (number_field v ucf_from (320 + 8 * n) 4 _) _ (dash_again block bytes (reaches v ucf_from) n (λ r. omega (arith, room, long_enough v 8 r)))
        (standing_append block (number_field v ucf_from (324 + 8 * n) 4 _) _ (drop_again block bytes (reaches v ucf_from) n (λ r. omega (arith, room, long_enough v 8 r)))
        (standing_append block (text_field v tag_from (352 + 16 * n) 16 _) _
        (text_again block bytes (reaches v tag_from) (352 + 16 * n) 16 16 seat.name_tag e.tag (omega arith) (omega arith) short.tag (clean_text v tag_from _ clean.tag)
        p.tag)
        (standing_append block (text_field v netplay_from (420 + 31 * n) 31 _) _
        (text_again block bytes (reaches v netplay_from) (420 + 31 * n) 30 31 seat.netplay.name e.name (omega arith) (omega arith) short.name (clean_text v netplay_from _ clean.name)
        p.name)
        (standing_append block (text_field v netplay_from (544 + 10 * n) 10 _) _
        (text_again block bytes (reaches v netplay_from) (544 + 10 * n) 9 10 seat.netplay.code e.code (omega arith) (omega arith) short.code (clean_text v netplay_from _ clean.code)
        p.code)
        (text_again block bytes (reaches v suid_from) (584 + 29 * n) 28 29 seat.netplay.suid e.suid (omega arith) (omega arith) short.suid (clean_text v suid_from _ clean.suid)
        p.suid))))))

  module _ (empty : (n : ℕ) → n < 4 → yes (get_or s.seats n no_seat).given ≡ false → byte_at t (101 + 36 * n) ≡ 3) where
    seat_again : (n : ℕ) → n < 4 → Standing block (keep (yes (seat_in v block n).given) (port_fields v n (seat_in v block n)))
    unfolding keep
    seat_again n few = go (yes (get_or s.seats n no_seat).given) refl
      where
        go : (on : Bool) → yes (get_or s.seats n no_seat).given ≡ on → Standing block (keep (yes (seat_in v block n).given) (port_fields v n (seat_in v block n)))
        go true e = rw (written.seat_given v s t d good long n few e) (port_again n few e)
        go false e = rw (written.seat_empty v s t d good long n few e (empty n few e)) (end block)

    seats_again : Standing block (seats_fields v 0 (start_in v block).seats)
    unfolding seats_fields start_in ranged
    seats_again =
        standing_append block (keep (yes (seat_in v block 0).given) (port_fields v 0 (seat_in v block 0))) _ (seat_again 0 (omega arith))
        (standing_append block (keep (yes (seat_in v block 1).given) (port_fields v 1 (seat_in v block 1))) _ (seat_again 1 (omega arith))
        (standing_append block (keep (yes (seat_in v block 2).given) (port_fields v 2 (seat_in v block 2))) _ (seat_again 2 (omega arith))
        (standing_append block (keep (yes (seat_in v block 3).given) (port_fields v 3 (seat_in v block 3))) _ (seat_again 3 (omega arith)) (end block))))

    pub again : start_block v (start_in v block) block ≡ block
    unfolding start_block fields
    again =
        patched_standing block (fields v (start_in v block))
        (standing_append block (game_fields v (start_in v block)) _ game_again_lem
        (standing_append block (seats_fields v 0 (start_in v block).seats) _ seats_again
        (standing_append block (mode_fields v (start_in v block)) _ modes_again match_again_too)))
