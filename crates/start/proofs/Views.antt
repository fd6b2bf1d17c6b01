-- What a viewer reads in a start block: the texts that were given.
-- Assumes nothing.
use mathlib.Core.Path.{◌≡◌, sym, ap, ◌∙◌}
use mathlib.Core.Bool.{Bool, true, false}
use mathlib.Core.List.{List, [], ◌∷◌, ◌++◌, map}
use Prim.Native.Nat.{ℕ, zero, suc, ◌+◌, ◌*◌, ◌-◌, ◌≤◌, ◌<◌}
use native.Mathlib.Omega.{arith}
use lib.ListN.{length, get_or, length-replicate}
use Rattle.wire.specs.Wire.{be, keep, part}
use Rattle.wire.proofs.Laws.{length_be}
use Rattle.format.specs.declared.version.Version.{Version}
use Rattle.format.specs.Mark.{yes}
use Rattle.format.specs.Refusal.{one_of}
use Rattle.format.proofs.Tests.{one_passed, rest_each}
use Rattle.game.specs.Zero.{no_seat}
use Rattle.game.specs.declared.start.Text.{Text}
use Rattle.game.specs.declared.start.Seat.{Seat}
use Rattle.game.specs.declared.start.Match.{Match}
use Rattle.game.specs.declared.start.MatchTail.{MatchTail}
use Rattle.game.specs.declared.start.MatchTail.TheVariants.{Cleared, Kept}
use Rattle.game.specs.MatchTails.{match_tail_of}
use Rattle.game.specs.declared.start.Start.{Start}
use Rattle.patch.specs.Patch.{Patch, patch}
use Rattle.patch.specs.Field.{text, zero_filled, zero_inside, read_text, read_at}
use Rattle.patch.proofs.Positions.{Misses, misses_append, misses_kept, Clear, part_inside, Fills, fills_after, fills_before, fills_kept}
use Rattle.patch.proofs.Viewed.{filled_within, fills_text, read_filled, read_further}
use Rattle.patch.proofs.Patches.{length_patched, ended}
use Rattle.start.specs.declared.gate.Gate.{Gate}
use Rattle.start.specs.Gate.{reaches, ucf_from, tag_from, pal_from, frozen_from, scene_from, netplay_from, suid_from, language_from, match_from}
use Rattle.start.specs.Length.{length_of}
use Rattle.start.specs.Refusal.{bad_seat, bad_start}
use Rattle.start.specs.Block.{game_fields, number_field, text_field, player_fields, text_fields, port_fields, seats_fields, mode_fields, match_tail, match_fields, fields, start_block}
use Rattle.start.proofs.Lengths.{long_enough}
use Rattle.start.proofs.Refusals.{Short, short_texts, seat_texts, clean_texts, short_text, clean_text, good_start}

-- ---- fields that lie apart

-- index i is not one of the w bytes from at on
abbrev pub Apart : ℕ → ℕ → ℕ → Type 0
Apart i at w = at ≤ i → i < at + w → ⊥

-- the bytes of a number, or none
misses_be : (i at w x : ℕ) → at + w ≤ i → at ≤ i → i < at + length (be w x) → ⊥
misses_be i at w x h a b = omega (arith, length_be w x)

misses_be_if : (i at : ℕ) (on : Bool) (x : ℕ) → at + 1 ≤ i → at ≤ i → i < at + length (keep on (be 1 x)) → ⊥
unfolding keep
misses_be_if i at true x h a b = omega (arith, length_be 1 x)
misses_be_if i at false x h a b = omega arith

module _ (v : Version) (i : ℕ) where
  misses_number : (g : Gate) (at w x : ℕ) → Apart i at w → Misses i (number_field v g at w x)
  unfolding Misses
  misses_number g at w x h = misses_kept i (reaches v g) (patch at (be w x) ∷ []) (λ on. (λ a b. h a (omega (arith, length_be w x)), tt))

  misses_text : (g : Gate) (at w : ℕ) (t : Text) → (reaches v g ≡ true → t.len ≤ w) → Apart i at w → Misses i (text_field v g at w t)
  unfolding Misses
  misses_text g at w t short h =
      misses_kept i (reaches v g) (patch at (zero_filled w t) ∷ []) (λ on. (λ a b. h a (omega (arith, filled_within t w (short on))), tt))

  -- a player's 36 bytes lie before
  misses_player : (at : ℕ) (p : Seat) → at + 36 ≤ i → Misses i (player_fields at p)
  unfolding Misses player_fields
  misses_player at p h = (
    misses_be i (at + 0) 1 _ (omega arith),
    (
      misses_be i (at + 1) 1 _ (omega arith),
      (
        misses_be i (at + 2) 1 _ (omega arith),
        (
          misses_be i (at + 3) 1 _ (omega arith),
          (
            misses_be_if i (at + 7) _ _ (omega arith),
            (
              misses_be i (at + 8) 1 _ (omega arith),
              (
                misses_be_if i (at + 9) _ _ (omega arith),
                (
                  misses_be i (at + 12) 1 _ (omega arith),
                  (
                    misses_be_if i (at + 15) _ _ (omega arith),
                    (
                      misses_be i (at + 16) 2 _ (omega arith),
                      (
                        misses_be i (at + 18) 2 _ (omega arith),
                        (
                          misses_be i (at + 24) 4 _ (omega arith),
                          (
                            misses_be i (at + 28) 4 _ (omega arith),
                            (misses_be i (at + 32) 4 _ (omega arith), tt),
                          ),
                        ),
                      ),
                    ),
                  ),
                ),
              ),
            ),
          ),
        ),
      ),
    ),
  )

-- whatever becomes of the match id's tail
pub apart_tail : (i : ℕ) (tail : MatchTail) (len : ℕ) → Apart i (702 + len) (50 - len)
    → (match_tail tail len).offset ≤ i → i < (match_tail tail len).offset + length (match_tail tail len).bytes → ⊥
apart_tail i Cleared len h a b = h a (omega (arith, length-replicate {A = ℕ} (50 - len) 0))
apart_tail i Kept len h a b = omega arith

-- ---- a text's field of port n, and all that is stored after it

-- the w bytes from at on lie behind the players' bytes, and apart from every text of the ports after n, from the modes and from the match
record Own (n at w : ℕ) : Type 0 where
  behind : 352 ≤ at
  before : at + w ≤ 700
  tags : (m i : ℕ) → n < m → m < 4 → at ≤ i → i < at + w → Apart i (352 + 16 * m) 16
  names : (m i : ℕ) → n < m → m < 4 → at ≤ i → i < at + w → Apart i (420 + 31 * m) 31
  codes : (m i : ℕ) → n < m → m < 4 → at ≤ i → i < at + w → Apart i (544 + 10 * m) 10
  suids : (m i : ℕ) → n < m → m < 4 → at ≤ i → i < at + w → Apart i (584 + 29 * m) 29
  modes : (i : ℕ) → at ≤ i → i < at + w → Apart i 416 4

own_tag : (n : ℕ) → n < 4 → Own n (352 + 16 * n) 16
own_tag n l = record {
  behind = omega arith;
  before = omega arith;
  tags = λ m i h k a b c d. omega arith;
  names = λ m i h k a b c d. omega arith;
  codes = λ m i h k a b c d. omega arith;
  suids = λ m i h k a b c d. omega arith;
  modes = λ i a b c d. omega arith;
}

own_name : (n : ℕ) → n < 4 → Own n (420 + 31 * n) 31
own_name n l = record {
  behind = omega arith;
  before = omega arith;
  tags = λ m i h k a b c d. omega arith;
  names = λ m i h k a b c d. omega arith;
  codes = λ m i h k a b c d. omega arith;
  suids = λ m i h k a b c d. omega arith;
  modes = λ i a b c d. omega arith;
}

own_code : (n : ℕ) → n < 4 → Own n (544 + 10 * n) 10
own_code n l = record {
  behind = omega arith;
  before = omega arith;
  tags = λ m i h k a b c d. omega arith;
  names = λ m i h k a b c d. omega arith;
  codes = λ m i h k a b c d. omega arith;
  suids = λ m i h k a b c d. omega arith;
  modes = λ i a b c d. omega arith;
}

own_suid : (n : ℕ) → n < 4 → Own n (584 + 29 * n) 29
own_suid n l = record {
  behind = omega arith;
  before = omega arith;
  tags = λ m i h k a b c d. omega arith;
  names = λ m i h k a b c d. omega arith;
  codes = λ m i h k a b c d. omega arith;
  suids = λ m i h k a b c d. omega arith;
  modes = λ i a b c d. omega arith;
}

-- a text that is not too long stays in its field
within : {on : Bool} {len n w : ℕ} → n ≤ w → (on ≡ true → len ≤ n) → on ≡ true → len ≤ w
within h short e = omega (arith, short e)

module _ (v : Version) {n at w : ℕ} (own : Own n at w) where
  clear_port : (m : ℕ) → n < m → m < 4 → (p : Seat) → Short v p → Clear at w (port_fields v m p)
  unfolding port_fields text_fields
  clear_port m h k p short i a b =
      misses_append i (player_fields (100 + 36 * m) p) _ (misses_player v i (100 + 36 * m) p (omega (arith, own.behind)))
      (misses_append i (number_field v ucf_from (320 + 8 * m) 4 p.ucf.dash_back) _ (misses_number v i ucf_from (320 + 8 * m) 4 _ (λ x y. omega (arith, own.behind)))
      (misses_append i (number_field v ucf_from (324 + 8 * m) 4 p.ucf.shield_drop) _ (misses_number v i ucf_from (324 + 8 * m) 4 _ (λ x y. omega (arith, own.behind)))
      (misses_append i (text_field v tag_from (352 + 16 * m) 16 p.name_tag) _ (misses_text v i tag_from (352 + 16 * m) 16 _ short.tag (own.tags m i h k a b))
      (misses_append i (text_field v netplay_from (420 + 31 * m) 31 p.netplay.name) _
      (misses_text v i netplay_from (420 + 31 * m) 31 _ (within (omega arith) short.name) (own.names m i h k a b))
      (misses_append i (text_field v netplay_from (544 + 10 * m) 10 p.netplay.code) _
      (misses_text v i netplay_from (544 + 10 * m) 10 _ (within (omega arith) short.code) (own.codes m i h k a b))
      (misses_text v i suid_from (584 + 29 * m) 29 _ (within (omega arith) short.suid) (own.suids m i h k a b)))))))

  clear_seats : (m : ℕ) (ps : List Seat) → n < m → m + length ps ≤ 4 → one_of (map (bad_seat v) ps) ≡ false → Clear at w (seats_fields v m ps)
  unfolding seats_fields Misses
  clear_seats m [] h k good i a b = tt
  clear_seats m (p ∷ ps) h k good i a b =
      let (here, later) = one_passed (bad_seat v p) (map (bad_seat v) ps) good in
      misses_append i (keep (yes p.given) (port_fields v m p)) _
      (misses_kept i (yes p.given) (port_fields v m p) (λ on. clear_port m h (omega arith) p (short_texts v p (seat_texts v p here on).0) i a b))
      (clear_seats (m + 1) ps (omega arith) (omega arith) later i a b)

  clear_modes : (s : Start) → Clear at w (mode_fields v s)
  unfolding mode_fields
  clear_modes s i a b =
      let apart = own.modes i a b in
      misses_append i (number_field v pal_from 416 1 _) _ (misses_number v i pal_from 416 1 _ (λ x y. apart (omega arith) (omega arith)))
      (misses_append i (number_field v frozen_from 417 1 _) _ (misses_number v i frozen_from 417 1 _ (λ x y. apart (omega arith) (omega arith)))
      (misses_append i (number_field v scene_from 418 1 _) _ (misses_number v i scene_from 418 1 _ (λ x y. apart (omega arith) (omega arith)))
      (misses_append i (number_field v scene_from 419 1 _) _ (misses_number v i scene_from 419 1 _ (λ x y. apart (omega arith) (omega arith)))
      (misses_number v i language_from 700 1 _ (λ x y. omega (arith, own.before))))))

  clear_match : (m : Match) → Clear at w (match_fields v m)
  unfolding match_fields Misses
  clear_match m i a b =
      misses_kept i (reaches v match_from) _ (λ on. (
        λ x y. omega (arith, own.before),
        (
          apart_tail i (match_tail_of m.tail) m.id.len (λ x y. omega (arith, own.before)),
          (λ x y. omega (arith, own.before), (λ x y. omega (arith, own.before), tt)),
        ),
      ))

-- ---- the texts of a port

-- the arrays of a player's texts have the 50 bytes that their type says
pub record Arrays (p : Seat) : Type 0 where
  pub tag : length p.name_tag.bytes ≡ 50
  pub name : length p.netplay.name.bytes ≡ 50
  pub code : length p.netplay.code.bytes ≡ 50
  pub suid : length p.netplay.suid.bytes ≡ 50

module _ (v : Version) (n : ℕ) (l : n < 4) (p : Seat) (arrays : Arrays p) (short : Short v p) where
  after_player : {at w : ℕ} {bytes : List ℕ} → Fills (length_of v) at w bytes (text_fields v n p) → Fills (length_of v) at w bytes (port_fields v n p)
  unfolding port_fields
  after_player f =
      fills_after (player_fields (100 + 36 * n) p) (fills_after (number_field v ucf_from (320 + 8 * n) 4 p.ucf.dash_back)
      (fills_after (number_field v ucf_from (324 + 8 * n) 4 p.ucf.shield_drop) f))

  abbrev tags : List Patch
  tags = text_field v tag_from (352 + 16 * n) 16 p.name_tag

  abbrev names : List Patch
  names = text_field v netplay_from (420 + 31 * n) 31 p.netplay.name

  abbrev codes : List Patch
  codes = text_field v netplay_from (544 + 10 * n) 10 p.netplay.code

  abbrev suids : List Patch
  suids = text_field v suid_from (584 + 29 * n) 29 p.netplay.suid

  misses_names : (i : ℕ) → Apart i (420 + 31 * n) 31 → Misses i names
  misses_names i h = misses_text v i netplay_from (420 + 31 * n) 31 p.netplay.name (within (omega arith) short.name) h

  misses_codes : (i : ℕ) → Apart i (544 + 10 * n) 10 → Misses i codes
  misses_codes i h = misses_text v i netplay_from (544 + 10 * n) 10 p.netplay.code (within (omega arith) short.code) h

  misses_suids : (i : ℕ) → Apart i (584 + 29 * n) 29 → Misses i suids
  misses_suids i h = misses_text v i suid_from (584 + 29 * n) 29 p.netplay.suid (within (omega arith) short.suid) h

  port_tag : reaches v tag_from ≡ true → Fills (length_of v) (352 + 16 * n) 16 (zero_filled 16 p.name_tag) (port_fields v n p)
  unfolding text_fields
  port_tag on =
      after_player
      (fills_before (names ++ (codes ++ suids))
      (λ i a b. misses_append i names _ (misses_names i (λ x y. omega arith)) (misses_append i codes _ (misses_codes i (λ x y. omega arith)) (misses_suids i (λ x y. omega arith))))
      (fills_kept (reaches v tag_from) on
      (fills_text (length_of v) (352 + 16 * n) p.name_tag 16 (omega (arith, arrays.tag, short.tag on)) (short.tag on) (omega (arith, long_enough v 7 on)))))

  port_name : reaches v netplay_from ≡ true → Fills (length_of v) (420 + 31 * n) 31 (zero_filled 31 p.netplay.name) (port_fields v n p)
  unfolding text_fields
  port_name on =
      after_player
      (fills_after tags
      (fills_before (codes ++ suids)
      (λ i a b. misses_append i codes _ (misses_codes i (λ x y. omega arith)) (misses_suids i (λ x y. omega arith)))
      (fills_kept (reaches v netplay_from) on
      (fills_text (length_of v) (420 + 31 * n) p.netplay.name 31 (omega (arith, arrays.name, short.name on)) (omega (arith, short.name on)) (omega (arith, long_enough v 3 on))))))

  port_code : reaches v netplay_from ≡ true → Fills (length_of v) (544 + 10 * n) 10 (zero_filled 10 p.netplay.code) (port_fields v n p)
  unfolding text_fields
  port_code on =
      after_player
      (fills_after tags
      (fills_after names
      (fills_before suids (λ i a b. misses_suids i (λ x y. omega arith))
      (fills_kept (reaches v netplay_from) on
      (fills_text (length_of v) (544 + 10 * n) p.netplay.code 10
      (omega (arith, arrays.code, short.code on)) (omega (arith, short.code on)) (omega (arith, long_enough v 3 on)))))))

  port_suid : reaches v suid_from ≡ true → Fills (length_of v) (584 + 29 * n) 29 (zero_filled 29 p.netplay.suid) (port_fields v n p)
  unfolding text_fields
  port_suid on =
      after_player
      (fills_after tags
      (fills_after names
      (fills_after codes
      (fills_kept (reaches v suid_from) on
      (fills_text (length_of v) (584 + 29 * n) p.netplay.suid 29
      (omega (arith, arrays.suid, short.suid on)) (omega (arith, short.suid on)) (omega (arith, long_enough v 2 on)))))))

-- ---- of a port among the seats, and of the seats among all fields

module _ (v : Version) {n at w : ℕ} {bytes : List ℕ} (own : Own n at w) where
  fills_seats : (m k : ℕ) (ps : List Seat) → m + k ≡ n → k < length ps → m + length ps ≤ 4 → one_of (map (bad_seat v) ps) ≡ false
      → Fills (length_of v) at w bytes (keep (yes (get_or ps k no_seat).given) (port_fields v n (get_or ps k no_seat)))
      → Fills (length_of v) at w bytes (seats_fields v m ps)
  unfolding seats_fields
  fills_seats m k [] e h l good f = absurd (omega arith)
  fills_seats m zero (p ∷ ps) e h l good f =
      let same : n ≡ m = omega arith in
      fills_before (seats_fields v (m + 1) ps)
      (clear_seats v own (m + 1) ps (omega arith) (omega arith) (one_passed (bad_seat v p) (map (bad_seat v) ps) good).1)
      (rw same at f)
  fills_seats m (suc k) (p ∷ ps) e h l good f =
      fills_after (keep (yes p.given) (port_fields v m p))
      (fills_seats (m + 1) k ps (omega arith) (omega arith) (omega arith) (one_passed (bad_seat v p) (map (bad_seat v) ps) good).1 f)

  fills_block : (s : Start) → n < length s.seats → length s.seats ≤ 4 → bad_start v s ≡ false → yes (get_or s.seats n no_seat).given ≡ true
      → Fills (length_of v) at w bytes (port_fields v n (get_or s.seats n no_seat)) → Fills (length_of v) at w bytes (fields v s)
  unfolding fields
  fills_block s h l good given f =
      fills_after (game_fields v s)
      (fills_before (mode_fields v s ++ match_fields v s.match_info)
      (λ i a b. misses_append i (mode_fields v s) _ (clear_modes v own s i a b) (clear_match v own s.match_info i a b))
      (fills_seats 0 n s.seats (omega arith) h (omega arith) (good_start v s good).0 (fills_kept (yes (get_or s.seats n no_seat).given) given f)))

-- ---- what is read in bytes among which the block stands from a place on

-- the texts of the player of port n, those that v writes
pub record Read (v : Version) (bytes : List ℕ) (place n : ℕ) (p : Seat) : Type 0 where
  pub tag : reaches v tag_from ≡ true → read_at bytes (place + (352 + 16 * n)) 16 ≡ text p.name_tag
  pub name : reaches v netplay_from ≡ true → read_at bytes (place + (420 + 31 * n)) 31 ≡ text p.netplay.name
  pub code : reaches v netplay_from ≡ true → read_at bytes (place + (544 + 10 * n)) 10 ≡ text p.netplay.code
  pub suid : reaches v suid_from ≡ true → read_at bytes (place + (584 + 29 * n)) 29 ≡ text p.netplay.suid

module _ (v : Version) (s : Start) (template before after : List ℕ) (long : length_of v ≤ length template) (good : bad_start v s ≡ false) where
  abbrev pub around : List ℕ
  around = before ++ (start_block v s template ++ after)

  -- a field that the patches fill
  pub in_block : {at w : ℕ} {bytes : List ℕ} → at + w ≤ length_of v → Fills (length_of v) at w bytes (fields v s) → part around (length before + at) w ≡ bytes
  unfolding start_block
  in_block {at} {w} h f =
      part_inside before (start_block v s template) after at w (rw (length_patched template (fields v s)) (omega arith)) ∙ f.filled template long

  module _ (few : length s.seats ≡ 4) (n : ℕ) (l : n < 4) (given : yes (get_or s.seats n no_seat).given ≡ true) (arrays : Arrays (get_or s.seats n no_seat)) where
    abbrev seat : Seat
    seat = get_or s.seats n no_seat

    sound : bad_seat v seat ≡ false
    sound = rest_each no_seat (bad_seat v) s.seats (good_start v s good).0 n (omega arith)

    read : {at w : ℕ} (t : Text) → at + w ≤ length_of v → Own n at w → zero_inside t ≡ false → Fills (length_of v) at w (zero_filled w t) (port_fields v n seat)
        → read_at around (length before + at) w ≡ text t
    read {at} {w} t room own clean f = ap read_text (in_block room (fills_block v own s (omega arith) (omega arith) good given f)) ∙ read_filled t w clean

    pub texts_read : Read v around (length before) n seat
    texts_read =
        let (fits, whole) = seat_texts v seat sound given in
        let short = short_texts v seat fits in
        let clean = clean_texts v seat whole in
        record {
          tag = λ on. read _ (omega (arith, long_enough v 7 on)) (own_tag n l) (clean_text v tag_from _ clean.tag on) (port_tag v n l seat arrays short on);
          name = λ on. read _ (omega (arith, long_enough v 3 on)) (own_name n l) (clean_text v netplay_from _ clean.name on) (port_name v n l seat arrays short on);
          code = λ on. read _ (omega (arith, long_enough v 3 on)) (own_code n l) (clean_text v netplay_from _ clean.code on) (port_code v n l seat arrays short on);
          suid = λ on. read _ (omega (arith, long_enough v 2 on)) (own_suid n l) (clean_text v suid_from _ clean.suid on) (port_suid v n l seat arrays short on);
        }

  -- the match id, where v writes one
  module _ (on : reaches v match_from ≡ true) (array : length s.match_info.id.bytes ≡ 50) where
    abbrev id : Text
    id = s.match_info.id

    short_id : id.len ≤ 50
    short_id = short_text v match_from 50 id (good_start v s good).1 on

    fills_id : Fills (length_of v) 701 (id.len + 1) (text id ++ (0 ∷ [])) (fields v s)
    unfolding fields match_fields Misses
    fills_id =
        let here = fills_text (length_of v) 701 id (id.len + 1) (omega (arith, short_id, array)) (omega arith) (omega (arith, short_id, long_enough v 0 on)) in
        fills_after (game_fields v s) (fills_after (seats_fields v 0 s.seats) (fills_after (mode_fields v s)
        (fills_kept (reaches v match_from) on
        (fills_before _ (λ i a b.
        (apart_tail i (match_tail_of s.match_info.tail) id.len (λ x y. omega arith), (λ x y. omega (arith, short_id), (λ x y. omega (arith, short_id), tt))))
        (rw (ended id) at here)))))

    pub match_id_read : read_at around (length before + 701) 51 ≡ text id
    match_id_read =
        read_further around (length before + 701) id 51 (omega (arith, short_id)) (clean_text v match_from id (good_start v s good).2 on)
        (in_block (omega (arith, short_id, long_enough v 0 on)) fills_id ∙ sym (ended id))
