-- What comes back from a start block that was written, field by field; and it is accepted.
-- Assumes nothing.
use mathlib.Core.Path.{◌≡◌, refl, sym, ap, subst, ◌∙◌}
use mathlib.Core.Bool.{Bool, true, false, cond}
use mathlib.Core.List.{List, [], ◌∷◌}
use Prim.Native.Nat.{ℕ, zero, suc, ◌+◌, ◌*◌, ◌≤◌, ◌<◌}
use native.Mathlib.Omega.{arith}
use borrow.Author.Tests.{eq-eqb}
use lib.Dec.{eqb}
use lib.ListN.{length, get_or}
use Rattle.wire.specs.Wire.{be, keep, ranged}
use Rattle.format.specs.Mark.{yes, mark_if, flag_of}
use Rattle.format.specs.declared.version.Version.{Version}
use Rattle.game.specs.Zero.{no_seat}
use Rattle.game.specs.MatchTails.{match_tail_of}
use Rattle.game.specs.declared.start.MatchTail.TheVariants.{Kept}
use Rattle.game.specs.declared.start.Text.{Text}
use Rattle.game.specs.declared.start.Seat.{Seat}
use Rattle.game.specs.declared.start.Match.{Match}
use Rattle.game.specs.declared.start.Start.{Start}
use Rattle.patch.specs.Patch.{Patch, patch}
use Rattle.patch.specs.Field.{text, zero_filled, zero_inside}
use Rattle.start.specs.Gate.{reaches, ucf_from, tag_from, pal_from, frozen_from, scene_from, netplay_from, suid_from, language_from, match_from}
use Rattle.start.specs.Length.{length_of}
use Rattle.start.specs.Refusal.{bad_start}
use Rattle.start.specs.Block.{game_fields, player_fields, match_id, match_tail, match_fields, start_block}
use Rattle.start.proofs.Refusals.{short_texts, seat_texts, clean_texts, short_text, clean_text, good_start}
use Rattle.read_start.specs.Start.{byte_at, number_at, text_at, optional_if, team_if, ucf_if, text_if, player_in, seat_in, scene_if, match_if, start_in}
use Rattle.read_start.proofs.Accepted.{text_is, accepted}
use Rattle.law_start.specs.Declared.{TextDeclared, SeatDeclared, Declared}
use Rattle.law_start.specs.Returned.{SeatReturned, StartReturned}
use Rattle.law_start.proofs.Stand.{Stands, Standing, kept_standing}
use Rattle.law_start.proofs.Values.{flag_again, byte_back, number_back, flag_back, part_back, text_back, id_back}
use Rattle.law_start.proofs.Written as written

-- ---- what is given where a test holds

mark_of_optional : (on : Bool) (x : ℕ) → (optional_if on x).given ≡ mark_if on
mark_of_optional true x = refl
mark_of_optional false x = refl

value_of_optional : (on : Bool) (x : ℕ) → on ≡ true → (optional_if on x).value ≡ x
value_of_optional on x e = rw e

module _ (block : List ℕ) where
  team_mark : (on : Bool) (at : ℕ) → (team_if on block at).given ≡ cond on 1 0
  team_mark true at = refl
  team_mark false at = refl

  team_color : (on : Bool) (at : ℕ) → on ≡ true → (team_if on block at).color ≡ byte_at block (at + 9)
  team_color on at e = rw e

  team_shade : (on : Bool) (at : ℕ) → on ≡ true → (team_if on block at).shade ≡ byte_at block (at + 7)
  team_shade on at e = rw e

  ucf_mark : (on : Bool) (n : ℕ) → (ucf_if on block n).given ≡ mark_if on
  ucf_mark true n = refl
  ucf_mark false n = refl

  ucf_dash : (on : Bool) (n : ℕ) → on ≡ true → (ucf_if on block n).dash_back ≡ number_at block (320 + 8 * n) 4
  ucf_dash on n e = rw e

  ucf_drop : (on : Bool) (n : ℕ) → on ≡ true → (ucf_if on block n).shield_drop ≡ number_at block (324 + 8 * n) 4
  ucf_drop on n e = rw e

  text_on : (on : Bool) (at limit : ℕ) → on ≡ true → text_if on block at limit ≡ text_at block at limit
  text_on on at limit e = rw e

  scene_mark : (on : Bool) → (scene_if on block).given ≡ mark_if on
  scene_mark true = refl
  scene_mark false = refl

  scene_minor : (on : Bool) → on ≡ true → (scene_if on block).minor ≡ byte_at block 418
  scene_minor on e = rw e

  scene_major : (on : Bool) → on ≡ true → (scene_if on block).major ≡ byte_at block 419
  scene_major on e = rw e

  match_mark : (on : Bool) → (match_if on block).given ≡ mark_if on
  match_mark true = refl
  match_mark false = refl

  match_on : (on : Bool) → on ≡ true → match_if on block ≡ match_if true block
  match_on on e = rw e

  -- a text, as it is read where the version has it
  text_returned : (on : Bool) (at limit w : ℕ) (t : Text) → TextDeclared t → limit ≤ w → limit ≤ 50 → t.len ≤ limit → zero_inside t ≡ false → on ≡ true
      → Stands block (patch at (zero_filled w t)) → text (text_if on block at limit) ≡ text t
  text_returned on at limit w t d h l short clean e s =
      ap text (text_on on at limit e) ∙ text_is block at limit ∙ text_back block at w t (omega (arith, d.long)) clean limit short h s

  kept_first : (on : Bool) (p : Patch) → on ≡ true → Standing block (keep on (p ∷ [])) → Stands block p
  unfolding keep Standing
  kept_first on p e s = (rw e at s).0

  kept_bytes_lem : (on : Bool) (at : ℕ) (xs : List ℕ) → on ≡ true → Stands block (patch at (keep on xs)) → Stands block (patch at xs)
  unfolding keep
  kept_bytes_lem on at xs e s = rw e at s

-- ---- a block that was written

module _ (v : Version) (s : Start) (t : List ℕ) (d : Declared s) (good : bad_start v s ≡ false) (long : length_of v ≤ length t) where
  abbrev block : List ℕ
  block = start_block v s t

  abbrev back : Start
  back = start_in v block

  teams_stand : byte_at block 12 ≡ flag_of s.is_teams
  unfolding game_fields Standing
  teams_stand = flag_back block 12 s.is_teams (written.game_standing v s t d good long).1.1.1.1.0

  flag_yes : (m : ℕ) → yes m ≡ true → yes (flag_of m) ≡ true
  flag_yes m e = rw e

  -- ---- a player

  module _ (n : ℕ) (few : n < 4) (on : yes (get_or s.seats n no_seat).given ≡ true) where
    abbrev seat : Seat
    seat = get_or s.seats n no_seat

    abbrev at : ℕ
    at = 100 + 36 * n

    e : SeatDeclared seat
    e = d.each n few

    -- the 36 bytes that every version has of a player
    record Own : Type 0 where
      character : byte_at block (at + 0) ≡ seat.character
      kind : byte_at block (at + 1) ≡ seat.kind
      stocks : byte_at block (at + 2) ≡ seat.stocks
      costume : byte_at block (at + 3) ≡ seat.costume
      shade : yes seat.team.given ≡ true → byte_at block (at + 7) ≡ seat.team.shade
      handicap : byte_at block (at + 8) ≡ seat.handicap
      color : yes seat.team.given ≡ true → byte_at block (at + 9) ≡ seat.team.color
      bitfield : byte_at block (at + 12) ≡ seat.bitfield
      level : eqb seat.kind 1 ≡ true → byte_at block (at + 15) ≡ seat.cpu_level.value
      start : number_at block (at + 16) 2 ≡ seat.damage_start
      spawn : number_at block (at + 18) 2 ≡ seat.damage_spawn
      offense : number_at block (at + 24) 4 ≡ seat.offense_ratio
      defense : number_at block (at + 28) 4 ≡ seat.defense_ratio
      scale : number_at block (at + 32) 4 ≡ seat.model_scale

    own : Own
    unfolding player_fields Standing
    own =
        let p = (written.port_standing v s t d good long n few on).player in
        record {
          character = byte_back block (at + 0) seat.character e.character p.0;
          kind = byte_back block (at + 1) seat.kind e.kind p.1.0;
          stocks = byte_back block (at + 2) seat.stocks e.stocks p.1.1.0;
          costume = byte_back block (at + 3) seat.costume e.costume p.1.1.1.0;
          shade = λ q. byte_back block (at + 7) seat.team.shade e.shade (kept_bytes_lem block (yes seat.team.given) (at + 7) (be 1 seat.team.shade) q p.1.1.1.1.0);
          handicap = byte_back block (at + 8) seat.handicap e.handicap p.1.1.1.1.1.0;
          color = λ q. byte_back block (at + 9) seat.team.color e.color (kept_bytes_lem block (yes seat.team.given) (at + 9) (be 1 seat.team.color) q p.1.1.1.1.1.1.0);
          bitfield = byte_back block (at + 12) seat.bitfield e.bitfield p.1.1.1.1.1.1.1.0;
          level = λ q. byte_back block (at + 15) seat.cpu_level.value e.level (kept_bytes_lem block (eqb seat.kind 1) (at + 15) (be 1 seat.cpu_level.value) q p.1.1.1.1.1.1.1.1.0);
          start = number_back block (at + 16) 2 seat.damage_start e.start p.1.1.1.1.1.1.1.1.1.0;
          spawn = number_back block (at + 18) 2 seat.damage_spawn e.spawn p.1.1.1.1.1.1.1.1.1.1.0;
          offense = number_back block (at + 24) 4 seat.offense_ratio e.offense p.1.1.1.1.1.1.1.1.1.1.1.0;
          defense = number_back block (at + 28) 4 seat.defense_ratio e.defense p.1.1.1.1.1.1.1.1.1.1.1.1.0;
          scale = number_back block (at + 32) 4 seat.model_scale e.scale p.1.1.1.1.1.1.1.1.1.1.1.1.1.0;
        }

    teams_on : yes s.is_teams ≡ true → yes (byte_at block 12) ≡ true
    teams_on q = ap (λ (x : ℕ). yes x) teams_stand ∙ flag_yes s.is_teams q

    pub player_returned : SeatReturned v s.is_teams seat (player_in v block n)
    player_returned =
        let (fit, clear) = seat_texts v seat (written.sound v s t d good long n few) on in
        let short = short_texts v seat fit in
        let clean = clean_texts v seat clear in
        let p = written.port_standing v s t d good long n few on in
        record {
          given = refl;
          character = own.character;
          kind = own.kind;
          stocks = own.stocks;
          costume = own.costume;
          team_given = team_mark block (yes (byte_at block 12)) at ∙ ap flag_of teams_stand ∙ flag_again s.is_teams;
          color = λ q r. team_color block (yes (byte_at block 12)) at (teams_on q) ∙ own.color r;
          shade = λ q r. team_shade block (yes (byte_at block 12)) at (teams_on q) ∙ own.shade r;
          handicap = own.handicap;
          bitfield = own.bitfield;
          level_given = mark_of_optional (eqb (byte_at block (at + 1)) 1) _ ∙ ap (λ (k : ℕ). mark_if (eqb k 1)) own.kind;
          level = λ q. value_of_optional (eqb (byte_at block (at + 1)) 1) _ (eq-eqb (byte_at block (at + 1)) 1 (own.kind ∙ q)) ∙ own.level (eq-eqb seat.kind 1 q);
          damage_start = own.start;
          damage_spawn = own.spawn;
          offense = own.offense;
          defense = own.defense;
          scale = own.scale;
          ucf_given = ucf_mark block (reaches v ucf_from) n;
          dash_back = λ q. ucf_dash block (reaches v ucf_from) n q ∙ number_back block (320 + 8 * n) 4 seat.ucf.dash_back e.dash (kept_first block (reaches v ucf_from) _ q p.dash);
          shield_drop = λ q. ucf_drop block (reaches v ucf_from) n q ∙ number_back block (324 + 8 * n) 4 seat.ucf.shield_drop e.drop (kept_first block (reaches v ucf_from) _ q p.drop);
          tag_given = refl;
          tag = λ q.
              text_returned block (reaches v tag_from) (352 + 16 * n) 16 16 seat.name_tag e.tag (omega arith) (omega arith) (short.tag q) (clean_text v tag_from _ clean.tag q) q
              (kept_first block (reaches v tag_from) _ q p.tag);
          netplay_given = refl;
          name = λ q.
              text_returned block (reaches v netplay_from) (420 + 31 * n) 30 31 seat.netplay.name e.name (omega arith) (omega arith) (short.name q) (clean_text v netplay_from _ clean.name q) q
              (kept_first block (reaches v netplay_from) _ q p.name);
          code = λ q.
              text_returned block (reaches v netplay_from) (544 + 10 * n) 9 10 seat.netplay.code e.code (omega arith) (omega arith) (short.code q) (clean_text v netplay_from _ clean.code q) q
              (kept_first block (reaches v netplay_from) _ q p.code);
          suid_given = refl;
          suid = λ q.
              text_returned block (reaches v suid_from) (584 + 29 * n) 28 29 seat.netplay.suid e.suid (omega arith) (omega arith) (short.suid q) (clean_text v suid_from _ clean.suid q) q
              (kept_first block (reaches v suid_from) _ q p.suid);
        }

  -- ---- the seats of the start that is read

  seat_at_lem : (n : ℕ) → n < 4 → get_or back.seats n no_seat ≡ seat_in v block n
  unfolding start_in ranged
  seat_at_lem zero h = refl
  seat_at_lem (suc zero) h = refl
  seat_at_lem (suc (suc zero)) h = refl
  seat_at_lem (suc (suc (suc zero))) h = refl
  seat_at_lem (suc (suc (suc (suc n)))) h = absurd (omega arith)

  four_back : length back.seats ≡ 4
  unfolding start_in ranged
  four_back = refl

  seat_returned : (n : ℕ) → n < 4 → yes (get_or s.seats n no_seat).given ≡ true → SeatReturned v s.is_teams (get_or s.seats n no_seat) (get_or back.seats n no_seat)
  seat_returned n few on =
      let same : get_or back.seats n no_seat ≡ player_in v block n = seat_at_lem n few ∙ written.seat_given v s t d good long n few on in
      subst (SeatReturned v s.is_teams (get_or s.seats n no_seat)) (sym same) (player_returned n few on)

  -- ---- the modes and the match

  flag_returned : (on : Bool) (from m : ℕ) → on ≡ true → Stands block (patch from (be 1 (flag_of m))) → (optional_if on (flag_of (byte_at block from))).value ≡ flag_of m
  flag_returned on from m q h = value_of_optional on _ q ∙ ap flag_of (flag_back block from m h) ∙ flag_again m

  -- the match, where the version has one
  module _ (on : reaches v match_from ≡ true) where
    abbrev m : Match
    m = s.match_info

    match_stands : Standing block (match_id m.id ∷ match_tail (match_tail_of m.tail) m.id.len ∷ patch 752 (be 4 m.game) ∷ patch 756 (be 4 m.tiebreaker) ∷ [])
    unfolding match_fields
    match_stands = kept_standing block (reaches v match_from) _ on (written.match_standing v s t d good long)

    same_match : back.match_info ≡ match_if true block
    unfolding start_in
    same_match = match_on block (reaches v match_from) on

    id_returned : text back.match_info.id ≡ text m.id
    unfolding Standing
    id_returned =
        let (sound, short, whole) = good_start v s good in
        let fits = short_text v match_from 50 _ short on in
        ap (λ (x : Match). text x.id) same_match ∙ text_is block 701 50
        ∙ id_back block 701 m.id (omega (arith, d.id.long, fits)) (clean_text v match_from _ whole on) fits match_stands.0

    game_returned : back.match_info.game ≡ m.game
    unfolding Standing
    game_returned = ap (λ (x : Match). x.game) same_match ∙ number_back block 752 4 m.game d.game match_stands.1.1.0

    tiebreaker_returned : back.match_info.tiebreaker ≡ m.tiebreaker
    unfolding Standing
    tiebreaker_returned = ap (λ (x : Match). x.tiebreaker) same_match ∙ number_back block 756 4 m.tiebreaker d.tiebreaker match_stands.1.1.1.0

    tail_returned : match_tail_of back.match_info.tail ≡ Kept
    tail_returned = ap (λ (x : Match). match_tail_of x.tail) same_match

  -- ---- where a seat that is not given has type 3 in the template

  module _ (empty : (n : ℕ) → n < 4 → yes (get_or s.seats n no_seat).given ≡ false → byte_at t (101 + 36 * n) ≡ 3) where
    absent_back : (n : ℕ) → n < 4 → yes (get_or s.seats n no_seat).given ≡ false → get_or back.seats n no_seat ≡ no_seat
    absent_back n few off = seat_at_lem n few ∙ written.seat_empty v s t d good long n few off (empty n few off)

    pub returned : StartReturned v s back
    unfolding game_fields Standing start_in
    returned =
        let g = written.game_standing v s t d good long in
        let m = written.modes_standing v s t d good long in
        record {
          bitfield = part_back block 4 s.bitfield 4 d.four g.1.1.1.1.1.1.1.1.1.1.1.0;
          raining_bombs = ap flag_of (flag_back block 10 s.is_raining_bombs g.1.1.1.0) ∙ flag_again s.is_raining_bombs;
          teams = ap flag_of teams_stand ∙ flag_again s.is_teams;
          frequency = byte_back block 15 s.item_spawn_frequency d.frequency g.1.1.1.1.1.0;
          score = byte_back block 16 s.self_destruct_score d.score g.1.1.1.1.1.1.0;
          stage = number_back block 18 2 s.stage d.stage g.1.1.1.1.1.1.1.0;
          timer = number_back block 20 4 s.timer d.timer g.1.1.1.1.1.1.1.1.0;
          items = part_back block 39 s.item_spawn_bitfield 5 d.five g.1.1.1.1.1.1.1.1.1.1.1.1.0;
          damage_ratio = number_back block 52 4 s.damage_ratio d.ratio g.1.1.1.1.1.1.1.1.1.0;
          four = four_back;
          there = seat_returned;
          absent = absent_back;
          seed = number_back block 316 4 s.random_seed d.seed g.1.1.1.1.1.1.1.1.1.1.0;
          pal_given = mark_of_optional (reaches v pal_from) _;
          pal = λ q. flag_returned (reaches v pal_from) 416 s.is_pal.value q (kept_first block (reaches v pal_from) _ q m.pal);
          frozen_given = mark_of_optional (reaches v frozen_from) _;
          frozen = λ q. flag_returned (reaches v frozen_from) 417 s.is_frozen_ps.value q (kept_first block (reaches v frozen_from) _ q m.frozen);
          scene_given = scene_mark block (reaches v scene_from);
          minor = λ q. scene_minor block (reaches v scene_from) q ∙ byte_back block 418 s.scene.minor d.minor (kept_first block (reaches v scene_from) _ q m.minor);
          major = λ q. scene_major block (reaches v scene_from) q ∙ byte_back block 419 s.scene.major d.major (kept_first block (reaches v scene_from) _ q m.major);
          language_given = mark_of_optional (reaches v language_from) _;
          language = λ q. value_of_optional (reaches v language_from) _ q ∙ byte_back block 700 s.language.value d.language (kept_first block (reaches v language_from) _ q m.language);
          match_given = match_mark block (reaches v match_from);
          tail = tail_returned;
          id = id_returned;
          game = game_returned;
          tiebreaker = tiebreaker_returned;
        }

    -- the types of the block are at most 3, so what is read is accepted
    pub types_written : (n : ℕ) → n < 4 → byte_at block (101 + 36 * n) ≤ 3
    types_written n few = go (yes (get_or s.seats n no_seat).given) refl
      where
        go : (on : Bool) → yes (get_or s.seats n no_seat).given ≡ on → byte_at block (101 + 36 * n) ≤ 3
        go true q = omega (arith, written.type_given v s t d good long n few q)
        go false q = omega (arith, written.type_stays v s t d good long n few q, empty n few q)

    pub accepted_again : bad_start v back ≡ false
    accepted_again = accepted block v types_written
