-- The start that a block made newer says is the one that 3.18.0 reads in the block as it was.
-- Assumes nothing.
use Prim.Native.Nat.{ℕ, ◌+◌, ◌-◌, ◌*◌, ◌≤◌, ◌<◌}
use mathlib.Core.Path.{◌≡◌, refl, sym, ap, ◌∙◌}
use mathlib.Core.Bool.{Bool, true, false, cond, ◌&&◌}
use mathlib.Core.List.{List, [], ◌∷◌, ◌++◌}
use native.Mathlib.Omega.{arith}
use lib.Dec.{eqb, leb}
use lib.ListN.{length, replicate}
use Rattle.wire.specs.Wire.{number, part}
use Rattle.wire.proofs.Laws.{ranged_same}
use Rattle.format.specs.Mark.{yes, mark_if, flag_of}
use Rattle.format.specs.Version.{gte_of, above}
use Rattle.format.specs.declared.version.Version.{Version}
use Rattle.patch.specs.Field.{read_text}
use Rattle.game.specs.MatchTails.{match_tail_number}
use Rattle.game.specs.Zero.{no_seat}
use Rattle.game.specs.declared.start.MatchTail.TheVariants.{Kept}
use Rattle.game.specs.declared.start.Seat.{Seat}
use Rattle.game.specs.declared.start.Text.{Text}
use Rattle.start.specs.Gate.{reaches, ucf_from, tag_from, pal_from, frozen_from, scene_from, netplay_from, suid_from, language_from, match_from}
use Rattle.read_start.specs.Start.{text_at, byte_at, number_at, optional_if, team_if, ucf_if, text_if, netplay_in, player_in, seat_in, seats_fit, scene_if, match_if, start_in}
use Rattle.known.specs.Known.{is_newer}
use Rattle.known.proofs.Newest.{newer_is, has_gate}
use Rattle.law_known.specs.Made.{last, made_block}
use Rattle.law_known.proofs.Good.{made_part, made_byte}

module _ (v : Version) (newer : is_newer v ≡ true) (block more : List ℕ) (long : 760 ≤ length block) where
  abbrev made : List ℕ
  made = made_block v block more

  -- ---- gates

  ucf : reaches v ucf_from ≡ reaches last ucf_from
  unfolding gte_of above
  ucf = rw (newer_is v newer).0

  tag : reaches v tag_from ≡ reaches last tag_from
  unfolding gte_of above
  tag = rw (newer_is v newer).0

  pal : reaches v pal_from ≡ reaches last pal_from
  unfolding gte_of above
  pal = rw (newer_is v newer).0

  frozen : reaches v frozen_from ≡ reaches last frozen_from
  unfolding gte_of above
  frozen = rw (newer_is v newer).0

  late : (b : ℕ) → b ≤ 18 → gte_of last 3 b ≡ true → gte_of v 3 b ≡ gte_of last 3 b
  late b h e = has_gate v newer b h ∙ sym e

  scene : reaches v scene_from ≡ reaches last scene_from
  unfolding gte_of above
  scene = late 7 (omega arith) refl

  netplay : reaches v netplay_from ≡ reaches last netplay_from
  unfolding gte_of above
  netplay = late 9 (omega arith) refl

  suid : reaches v suid_from ≡ reaches last suid_from
  unfolding gte_of above
  suid = late 11 (omega arith) refl

  language : reaches v language_from ≡ reaches last language_from
  unfolding gte_of above
  language = late 12 (omega arith) refl

  info : reaches v match_from ≡ reaches last match_from
  unfolding gte_of above
  info = late 14 (omega arith) refl

  -- ---- bytes

  byte : (at : ℕ) → 3 ≤ at → at < 760 → byte_at made at ≡ byte_at block at
  byte at h k = made_byte v block more at h (omega arith)

  run : (at n : ℕ) → 3 ≤ at → at + n ≤ 760 → part made at n ≡ part block at n
  run at n h k = made_part v block more at n h (omega arith)

  words : (at n : ℕ) → 3 ≤ at → at + n ≤ 760 → number_at made at n ≡ number_at block at n
  words at n h k = ap number (run at n h k)

  text : (at limit : ℕ) → 3 ≤ at → at + limit ≤ 760 → text_at made at limit ≡ text_at block at limit
  text at limit h k = ap (λ (p : List ℕ). text_of p) (run at limit h k)
    where
      text_of : List ℕ → Text
      text_of p = let t = read_text p in record { bytes = t ++ replicate (50 - length t) 0; len = length t }

  -- ---- the player of port n

  module _ (n : ℕ) (h : n < 4) where
    abbrev at : ℕ
    at = 100 + 36 * n

    team_same : (b : Bool) → team_if b made at ≡ team_if b block at
    team_same true = λ i. record { given = 1; color = byte (at + 9) (omega arith) (omega arith) i; shade = byte (at + 7) (omega arith) (omega arith) i }
    team_same false = refl

    ucf_same : (b : Bool) → ucf_if b made n ≡ ucf_if b block n
    ucf_same true = λ i. record { given = 1; dash_back = words (320 + 8 * n) 4 (omega arith) (omega arith) i; shield_drop = words (324 + 8 * n) 4 (omega arith) (omega arith) i }
    ucf_same false = refl

    text_same : (b : Bool) (place limit : ℕ) → 3 ≤ place → place + limit ≤ 760 → text_if b made place limit ≡ text_if b block place limit
    text_same true place limit k l = text place limit k l
    text_same false place limit k l = refl

    netplay_same : netplay_in v made n ≡ netplay_in last block n
    netplay_same =
        let name = text_same (reaches last netplay_from) (420 + 31 * n) 30 (omega arith) (omega arith) in
        let code = text_same (reaches last netplay_from) (544 + 10 * n) 9 (omega arith) (omega arith) in
        let id = text_same (reaches last suid_from) (584 + 29 * n) 28 (omega arith) (omega arith) in
        (λ i. record {
          given = mark_if (netplay i);
          name = text_if (netplay i) made (420 + 31 * n) 30;
          code = text_if (netplay i) made (544 + 10 * n) 9;
          suid_given = mark_if (suid i);
          suid = text_if (suid i) made (584 + 29 * n) 28;
        })
        ∙ (λ i. record {
          given = mark_if (reaches last netplay_from);
          name = name i;
          code = code i;
          suid_given = mark_if (reaches last suid_from);
          suid = id i;
        })

    player_same : player_in v made n ≡ player_in last block n
    player_same =
        let team = (λ i. team_if (yes (byte 12 (omega arith) (omega arith) i)) made at) ∙ team_same (yes (byte_at block 12)) in
        let shield = (λ i. ucf_if (ucf i) made n) ∙ ucf_same (reaches last ucf_from) in
        let name = (λ i. text_if (tag i) made (352 + 16 * n) 16) ∙ text_same (reaches last tag_from) (352 + 16 * n) 16 (omega arith) (omega arith) in
        let kind = byte (at + 1) (omega arith) (omega arith) in
        let level = byte (at + 15) (omega arith) (omega arith) in
        λ i. record {
          given = 1;
          character = byte (at + 0) (omega arith) (omega arith) i;
          kind = kind i;
          stocks = byte (at + 2) (omega arith) (omega arith) i;
          costume = byte (at + 3) (omega arith) (omega arith) i;
          team = team i;
          handicap = byte (at + 8) (omega arith) (omega arith) i;
          bitfield = byte (at + 12) (omega arith) (omega arith) i;
          cpu_level = optional_if (eqb (kind i) 1) (level i);
          damage_start = words (at + 16) 2 (omega arith) (omega arith) i;
          damage_spawn = words (at + 18) 2 (omega arith) (omega arith) i;
          offense_ratio = words (at + 24) 4 (omega arith) (omega arith) i;
          defense_ratio = words (at + 28) 4 (omega arith) (omega arith) i;
          model_scale = words (at + 32) 4 (omega arith) (omega arith) i;
          ucf = shield i;
          name_tag_given = mark_if (tag i);
          name_tag = name i;
          netplay = netplay_same i;
        }

    seat_same : seat_in v made n ≡ seat_in last block n
    unfolding seat_in
    seat_same = λ i. cond (eqb (byte (101 + 36 * n) (omega arith) (omega arith) i) 3) no_seat (player_same i)

  -- ---- the game

  scene_same : (b : Bool) → scene_if b made ≡ scene_if b block
  scene_same true = λ i. record { given = 1; minor = byte 418 (omega arith) (omega arith) i; major = byte 419 (omega arith) (omega arith) i }
  scene_same false = refl

  match_same : (b : Bool) → match_if b made ≡ match_if b block
  match_same true = λ i. record {
    given = 1;
    tail = match_tail_number Kept;
    id = text 701 50 (omega arith) (omega arith) i;
    game = words 752 4 (omega arith) (omega arith) i;
    tiebreaker = words 756 4 (omega arith) (omega arith) i;
  }
  match_same false = refl

  pub start_same : start_in v made ≡ start_in last block
  unfolding start_in
  start_same =
      let seats = ranged_same (λ n. seat_in v made n ∷ []) (λ n. seat_in last block n ∷ []) 0 4 (λ n a b. ap (λ (s : Seat). s ∷ []) (seat_same n (omega arith))) in
      let place = (λ i. scene_if (scene i) made) ∙ scene_same (reaches last scene_from) in
      let match = (λ i. match_if (info i) made) ∙ match_same (reaches last match_from) in
      λ i. record {
        bitfield = run 4 4 (omega arith) (omega arith) i;
        is_raining_bombs = flag_of (byte 10 (omega arith) (omega arith) i);
        is_teams = flag_of (byte 12 (omega arith) (omega arith) i);
        item_spawn_frequency = byte 15 (omega arith) (omega arith) i;
        self_destruct_score = byte 16 (omega arith) (omega arith) i;
        stage = words 18 2 (omega arith) (omega arith) i;
        timer = words 20 4 (omega arith) (omega arith) i;
        item_spawn_bitfield = run 39 5 (omega arith) (omega arith) i;
        damage_ratio = words 52 4 (omega arith) (omega arith) i;
        seats = seats i;
        random_seed = words 316 4 (omega arith) (omega arith) i;
        is_pal = optional_if (pal i) (flag_of (byte 416 (omega arith) (omega arith) i));
        is_frozen_ps = optional_if (frozen i) (flag_of (byte 417 (omega arith) (omega arith) i));
        scene = place i;
        language = optional_if (language i) (byte 700 (omega arith) (omega arith) i);
        match_info = match i;
      }

  pub seats_same : seats_fit made ≡ seats_fit block
  unfolding seats_fit
  seats_same = λ i. leb (byte 101 (omega arith) (omega arith) i) 3
      && leb (byte 137 (omega arith) (omega arith) i) 3
      && leb (byte 173 (omega arith) (omega arith) i) 3
      && leb (byte 209 (omega arith) (omega arith) i) 3
