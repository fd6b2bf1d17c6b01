-- The fields of a start in the order of their owners.
-- Assumes nothing.
use mathlib.Core.Path.{◌≡◌}
use mathlib.Core.Bool.{Bool, true, false}
use mathlib.Core.List.{List, [], ◌∷◌, ◌++◌, map}
use Prim.Native.Nat.{ℕ, ◌+◌, ◌-◌, ◌*◌, ◌≤◌, ◌<◌}
use native.Mathlib.Omega.{arith}
use lib.ListN.{length, length-replicate}
use Rattle.wire.specs.Wire.{be, keep}
use Rattle.wire.proofs.Laws.{length_be}
use Rattle.format.specs.Mark.{yes}
use Rattle.format.specs.Refusal.{one_of}
use Rattle.format.specs.declared.version.Version.{Version}
use Rattle.format.proofs.Tests.{one_passed}
use Rattle.game.specs.MatchTails.{match_tail_of}
use Rattle.game.specs.declared.start.MatchTail.{MatchTail}
use Rattle.game.specs.declared.start.MatchTail.TheVariants.{Cleared, Kept}
use Rattle.game.specs.declared.start.Text.{Text}
use Rattle.game.specs.declared.start.Seat.{Seat}
use Rattle.game.specs.declared.start.Match.{Match}
use Rattle.game.specs.declared.start.Start.{Start}
use Rattle.patch.specs.Patch.{Patch, patch}
use Rattle.patch.specs.Field.{text, zero_filled}
use Rattle.patch.proofs.Patches.{ended}
use Rattle.patch.proofs.Viewed.{filled_within}
use Rattle.start.specs.declared.gate.Gate.{Gate}
use Rattle.start.specs.Gate.{reaches, ucf_from, tag_from, pal_from, frozen_from, scene_from, netplay_from, suid_from, language_from, match_from}
use Rattle.start.specs.Length.{length_of}
use Rattle.start.specs.Refusal.{bad_seat, bad_start}
use Rattle.start.specs.Block.{game_fields, number_field, text_field, player_fields, text_fields, port_fields, seats_fields, mode_fields, match_id, match_tail, match_fields, fields}
use Rattle.start.proofs.Lengths.{at_least, long_enough}
use Rattle.start.proofs.Refusals.{Short, short_texts, seat_texts, short_text, good_start}
use Rattle.law_start.proofs.Order.{owner, own_first, own_bits, own_second, own_items, own_third, own_fourth, own_player, own_ucf, own_tag, own_modes, own_name, own_code, own_suid, own_language, own_match, Spans, spans_from, spans_append, spans_kept, span_end, span_next, span_if}

short_be : (w x : ℕ) → length (be w x) ≤ w
short_be w x = omega (arith, length_be w x)

short_if : (on : Bool) (x : ℕ) → length (keep on (be 1 x)) ≤ 1
unfolding keep
short_if true x = short_be 1 x
short_if false x = omega arith

module _ (v : Version) where
  abbrev pub long : ℕ
  long = length_of v

  -- ---- the game

  module _ (s : Start) (four : length s.bitfield ≡ 4) (five : length s.item_spawn_bitfield ≡ 5) where
    pub game_spans : Spans long 0 (game_fields v s) 2000
    unfolding game_fields
    game_spans =
        let low = at_least v in
        span_next long 0 0 1 _ 0 _ 2000 (short_be 1 _) (omega arith) (λ i x y. own_first i (omega arith)) (omega arith)
        (span_next long 0 1 1 _ 1 _ 2000 (short_be 1 _) (omega arith) (λ i x y. own_first i (omega arith)) (omega arith)
        (span_next long 0 2 1 _ 2 _ 2000 (short_be 1 _) (omega arith) (λ i x y. own_first i (omega arith)) (omega arith)
        (span_next long 0 10 1 _ 3 _ 2000 (short_be 1 _) (omega arith) (λ i x y. own_second i (omega arith) (omega arith)) (omega arith)
        (span_next long 0 12 1 _ 11 _ 2000 (short_be 1 _) (omega arith) (λ i x y. own_second i (omega arith) (omega arith)) (omega arith)
        (span_next long 0 15 1 _ 13 _ 2000 (short_be 1 _) (omega arith) (λ i x y. own_second i (omega arith) (omega arith)) (omega arith)
        (span_next long 0 16 1 _ 16 _ 2000 (short_be 1 _) (omega arith) (λ i x y. own_second i (omega arith) (omega arith)) (omega arith)
        (span_next long 0 18 2 _ 17 _ 2000 (short_be 2 _) (omega arith) (λ i x y. own_second i (omega arith) (omega arith)) (omega arith)
        (span_next long 0 20 4 _ 20 _ 2000 (short_be 4 _) (omega arith) (λ i x y. own_second i (omega arith) (omega arith)) (omega arith)
        (span_next long 0 52 4 _ 24 _ 2000 (short_be 4 _) (omega arith) (λ i x y. own_third i (omega arith) (omega arith)) (omega arith)
        (span_next long 0 316 4 _ 56 _ 2000 (short_be 4 _) (omega arith) (λ i x y. own_fourth i (omega arith) (omega arith)) (omega arith)
        (span_next long 1 4 4 s.bitfield 320 _ 2000 (omega arith) (omega arith) (λ i x y. own_bits i (omega arith) (omega arith)) (omega arith)
        (span_next long 1 39 5 s.item_spawn_bitfield 1008 [] 2000 (omega arith) (omega arith) (λ i x y. own_items i (omega arith) (omega arith)) (omega arith) (span_end long _ _ (omega arith))))))))))))))

  -- ---- a player

  module _ (m : ℕ) (few : m < 4) (p : Seat) where
    abbrev at : ℕ
    at = 100 + 36 * m

    abbrev o : ℕ
    o = 2 + m

    abbrev mine : (k w : ℕ) → k + w ≤ 36 → (i : ℕ) → at + k ≤ i → i < at + k + w → owner i ≡ o
    mine k w h i x y = own_player i m few (omega arith) (omega arith)

    player_spans : Spans long (o * 1000) (player_fields at p) (o * 1000 + (at + 32 + 4))
    unfolding player_fields
    player_spans =
        let low = at_least v in
        let b = o * 1000 + (at + 32 + 4) in
        span_next long o (at + 0) 1 _ (o * 1000) _ b (short_be 1 _) (omega arith) (mine 0 1 (omega arith)) (omega arith)
        (span_next long o (at + 1) 1 _ (o * 1000 + (at + 0 + 1)) _ b (short_be 1 _) (omega arith) (mine 1 1 (omega arith)) (omega arith)
        (span_next long o (at + 2) 1 _ (o * 1000 + (at + 1 + 1)) _ b (short_be 1 _) (omega arith) (mine 2 1 (omega arith)) (omega arith)
        (span_next long o (at + 3) 1 _ (o * 1000 + (at + 2 + 1)) _ b (short_be 1 _) (omega arith) (mine 3 1 (omega arith)) (omega arith)
        (span_next long o (at + 7) 1 _ (o * 1000 + (at + 3 + 1)) _ b (short_if _ _) (omega arith) (mine 7 1 (omega arith)) (omega arith)
        (span_next long o (at + 8) 1 _ (o * 1000 + (at + 7 + 1)) _ b (short_be 1 _) (omega arith) (mine 8 1 (omega arith)) (omega arith)
        (span_next long o (at + 9) 1 _ (o * 1000 + (at + 8 + 1)) _ b (short_if _ _) (omega arith) (mine 9 1 (omega arith)) (omega arith)
        (span_next long o (at + 12) 1 _ (o * 1000 + (at + 9 + 1)) _ b (short_be 1 _) (omega arith) (mine 12 1 (omega arith)) (omega arith)
        (span_next long o (at + 15) 1 _ (o * 1000 + (at + 12 + 1)) _ b (short_if _ _) (omega arith) (mine 15 1 (omega arith)) (omega arith)
        (span_next long o (at + 16) 2 _ (o * 1000 + (at + 15 + 1)) _ b (short_be 2 _) (omega arith) (mine 16 2 (omega arith)) (omega arith)
        (span_next long o (at + 18) 2 _ (o * 1000 + (at + 16 + 2)) _ b (short_be 2 _) (omega arith) (mine 18 2 (omega arith)) (omega arith)
        (span_next long o (at + 24) 4 _ (o * 1000 + (at + 18 + 2)) _ b (short_be 4 _) (omega arith) (mine 24 4 (omega arith)) (omega arith)
        (span_next long o (at + 28) 4 _ (o * 1000 + (at + 24 + 4)) _ b (short_be 4 _) (omega arith) (mine 28 4 (omega arith)) (omega arith)
        (span_next long o (at + 32) 4 _ (o * 1000 + (at + 28 + 4)) [] b (short_be 4 _) (omega arith) (mine 32 4 (omega arith)) (omega arith) (span_end long _ _ (omega arith)))))))))))))))

    number_spans : (g : Gate) (from : ℕ) (w x a : ℕ) → (reaches v g ≡ true → from + w ≤ long) → ((i : ℕ) → from ≤ i → i < from + w → owner i ≡ o) → a ≤ o * 1000 + from
        → Spans long a (number_field v g from w x) (o * 1000 + (from + w))
    number_spans g from w x a room own l = span_if long (reaches v g) o from w (be w x) a (λ on. short_be w x) room own l

    text_spans : (g : Gate) (from : ℕ) (w : ℕ) (t : Text) (a : ℕ) → (reaches v g ≡ true → t.len ≤ w) → (reaches v g ≡ true → from + w ≤ long)
        → ((i : ℕ) → from ≤ i → i < from + w → owner i ≡ o) → a ≤ o * 1000 + from → Spans long a (text_field v g from w t) (o * 1000 + (from + w))
    text_spans g from w t a short room own l = span_if long (reaches v g) o from w (zero_filled w t) a (λ on. filled_within t w (short on)) room own l

    pub port_spans : Short v p → Spans long (o * 1000) (port_fields v m p) (o * 1000 + (584 + 29 * m + 29))
    unfolding port_fields text_fields
    port_spans short =
        spans_append long _ (player_fields at p) _ _ _ player_spans
        (spans_append long _ (number_field v ucf_from (320 + 8 * m) 4 p.ucf.dash_back) _ _ _
        (number_spans ucf_from (320 + 8 * m) 4 _ _ (λ on. omega (arith, long_enough v 8 on)) (λ i x y. own_ucf i m few (omega arith) (omega arith)) (omega arith))
        (spans_append long _ (number_field v ucf_from (324 + 8 * m) 4 p.ucf.shield_drop) _ _ _
        (number_spans ucf_from (324 + 8 * m) 4 _ _ (λ on. omega (arith, long_enough v 8 on)) (λ i x y. own_ucf i m few (omega arith) (omega arith)) (omega arith))
        (spans_append long _ (text_field v tag_from (352 + 16 * m) 16 p.name_tag) _ _ _
        (text_spans tag_from (352 + 16 * m) 16 _ _ short.tag (λ on. omega (arith, long_enough v 7 on)) (λ i x y. own_tag i m few (omega arith) (omega arith)) (omega arith))
        (spans_append long _ (text_field v netplay_from (420 + 31 * m) 31 p.netplay.name) _ _ _
        (text_spans netplay_from (420 + 31 * m) 31 _ _ (λ on. omega (arith, short.name on)) (λ on. omega (arith, long_enough v 3 on)) (λ i x y. own_name i m few (omega arith) (omega arith)) (omega arith))
        (spans_append long _ (text_field v netplay_from (544 + 10 * m) 10 p.netplay.code) _ _ _
        (text_spans netplay_from (544 + 10 * m) 10 _ _ (λ on. omega (arith, short.code on)) (λ on. omega (arith, long_enough v 3 on)) (λ i x y. own_code i m few (omega arith) (omega arith)) (omega arith))
        (text_spans suid_from (584 + 29 * m) 29 _ _ (λ on. omega (arith, short.suid on)) (λ on. omega (arith, long_enough v 2 on)) (λ i x y. own_suid i m few (omega arith) (omega arith)) (omega arith)))))))

  -- ---- the players, the modes, and the match

  pub seat_spans : (m : ℕ) → m < 4 → (p : Seat) → bad_seat v p ≡ false → Spans long ((2 + m) * 1000) (keep (yes p.given) (port_fields v m p)) ((2 + m) * 1000 + (584 + 29 * m + 29))
  seat_spans m few p good =
      spans_kept long (yes p.given) _ (port_fields v m p) _ (omega arith) (λ on. port_spans m few p (short_texts v p (seat_texts v p good on).0))

  pub seats_spans : (m : ℕ) (ps : List Seat) → m + length ps ≤ 4 → one_of (map (bad_seat v) ps) ≡ false → Spans long ((2 + m) * 1000) (seats_fields v m ps) 6000
  unfolding seats_fields Spans
  seats_spans m [] h good = omega arith
  seats_spans m (p ∷ ps) h good =
      let (here, later) = one_passed (bad_seat v p) (map (bad_seat v) ps) good in
      let next : (2 + m) * 1000 + (584 + 29 * m + 29) ≤ (2 + (m + 1)) * 1000 = omega arith in
      spans_append long _ (keep (yes p.given) (port_fields v m p)) _ _ _ (seat_spans m (omega arith) p here)
      (spans_from long _ ((2 + (m + 1)) * 1000) (seats_fields v (m + 1) ps) 6000 next (seats_spans (m + 1) ps (omega arith) later))

  mode_spans : (g : Gate) (from x a : ℕ) → (reaches v g ≡ true → from + 1 ≤ long) → ((i : ℕ) → from ≤ i → i < from + 1 → owner i ≡ 6) → a ≤ 6 * 1000 + from
      → Spans long a (number_field v g from 1 x) (6 * 1000 + (from + 1))
  mode_spans g from x a room own l = span_if long (reaches v g) 6 from 1 (be 1 x) a (λ on. short_be 1 x) room own l

  pub modes_spans : (s : Start) → Spans long 6000 (mode_fields v s) (6 * 1000 + 701)
  unfolding mode_fields
  modes_spans s =
      spans_append long _ (number_field v pal_from 416 1 _) _ _ _ (mode_spans pal_from 416 _ 6000 (λ on. omega (arith, long_enough v 6 on)) (λ i x y. own_modes i (omega arith) (omega arith)) (omega arith))
      (spans_append long _ (number_field v frozen_from 417 1 _) _ _ _ (mode_spans frozen_from 417 _ 6417 (λ on. omega (arith, long_enough v 5 on)) (λ i x y. own_modes i (omega arith) (omega arith)) (omega arith))
      (spans_append long _ (number_field v scene_from 418 1 _) _ _ _ (mode_spans scene_from 418 _ 6418 (λ on. omega (arith, long_enough v 4 on)) (λ i x y. own_modes i (omega arith) (omega arith)) (omega arith))
      (spans_append long _ (number_field v scene_from 419 1 _) _ _ _ (mode_spans scene_from 419 _ 6419 (λ on. omega (arith, long_enough v 4 on)) (λ i x y. own_modes i (omega arith) (omega arith)) (omega arith))
      (mode_spans language_from 700 _ 6420 (λ on. omega (arith, long_enough v 1 on)) (λ i x y. own_language i (omega arith)) (omega arith)))))

  id_short : (t : Text) → length (text t ++ (0 ∷ [])) ≤ t.len + 1
  id_short t = rw (← ended t) (filled_within t (t.len + 1) (omega arith))

  module _ (m : Match) (room : 760 ≤ long) (short : m.id.len ≤ 50) where
    abbrev len : ℕ
    len = m.id.len

    abbrev numbers : List Patch
    numbers = patch 752 (be 4 m.game) ∷ patch 756 (be 4 m.tiebreaker) ∷ []

    numbers_span : Spans long (7 * 1000 + (702 + len + (50 - len))) numbers 8000
    numbers_span =
        span_next long 7 752 4 _ _ _ 8000 (short_be 4 _) (omega arith) (λ i x y. own_match i (omega arith)) (omega arith)
        (span_next long 7 756 4 _ 7756 [] 8000 (short_be 4 _) (omega arith) (λ i x y. own_match i (omega arith)) (omega arith) (span_end long _ _ (omega arith)))

    -- whatever becomes of the match id's tail
    tail_spans : (tail : MatchTail) → Spans long (7 * 1000 + (701 + (len + 1))) (match_tail tail len ∷ numbers) 8000
    tail_spans Cleared =
        span_next long 7 (702 + len) (50 - len) _ _ _ 8000 (omega (arith, length-replicate {A = ℕ} (50 - len) 0)) (omega arith) (λ i x y. own_match i (omega arith)) (omega arith) numbers_span
    tail_spans Kept = span_next long 7 (702 + len) (50 - len) [] _ _ 8000 (omega arith) (omega arith) (λ i x y. own_match i (omega arith)) (omega arith) numbers_span

    id_spans : Spans long 7000 (match_id m.id ∷ match_tail (match_tail_of m.tail) len ∷ numbers) 8000
    id_spans =
        span_next long 7 701 (len + 1) _ _ _ 8000 (id_short m.id) (omega arith) (λ i x y. own_match i (omega arith)) (omega arith) (tail_spans (match_tail_of m.tail))

  pub match_spans : (m : Match) → (reaches v match_from ≡ true → m.id.len ≤ 50) → Spans long 7000 (match_fields v m) 8000
  unfolding match_fields
  match_spans m short = spans_kept long (reaches v match_from) _ _ _ (omega arith) (λ on. id_spans m (omega (arith, long_enough v 0 on)) (short on))

  -- what is stored after the players
  pub fields_after : (s : Start) → bad_start v s ≡ false → Spans long 6000 (mode_fields v s ++ match_fields v s.match_info) 8000
  fields_after s good =
      let (sound, fits, whole) = good_start v s good in
      spans_append long _ (mode_fields v s) _ _ _ (modes_spans s)
      (spans_from long _ 7000 (match_fields v s.match_info) 8000 (omega arith) (match_spans s.match_info (λ on. short_text v match_from 50 _ fits on)))

  module _ (s : Start) (four : length s.bitfield ≡ 4) (five : length s.item_spawn_bitfield ≡ 5) (seats : length s.seats ≡ 4) (good : bad_start v s ≡ false) where
    pub fields_spans : Spans long 0 (fields v s) 8000
    unfolding fields
    fields_spans =
        let (sound, fits, whole) = good_start v s good in
        spans_append long _ (game_fields v s) _ _ _ (game_spans s four five)
        (spans_append long _ (seats_fields v 0 s.seats) _ _ _ (seats_spans 0 s.seats (omega arith) sound) (fields_after s good))
