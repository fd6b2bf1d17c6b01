-- Computed: three rows of one player at 0.1.0 with ids 5, 6 and 5, of which the last two are final, a file of 537 bytes; and each refusal by its number.
-- Assumes nothing.
use mathlib.Core.Path.{◌≡◌, refl, sym}
use mathlib.Core.List.{List, [], ◌∷◌}
use Prim.Native.Nat.{ℕ, ◌≤◌}
use native.Mathlib.Omega.{arith}
use borrow.Author.Tests.{lt-ltb, le-ltb}
use lib.Dec.{lit<, lit≤}
use lib.ListN.{length, replicate}
use Rattle.wire.specs.Wire.{be, ranged}
use Rattle.wire.proofs.Sums.{summed}
use Rattle.format.specs.File.{entries_bytes, table_bytes}
use Rattle.format.specs.FrameId.{place_of}
use Rattle.format.specs.Refusal.{lowest}
use Rattle.format.specs.Version.{version}
use Rattle.format.specs.declared.version.Version.{Version}
use Rattle.format.proofs.Refusals.{here, skip, none}
use Rattle.layout.specs.Payloads.{end_size, listed, payload_size, entries_of}
use Rattle.game.specs.Frames.{no_port}
use Rattle.game.specs.Stores.{cells, offsets, lent, Stores, stores}
use Rattle.game.specs.Zero.{no_text, no_seat}
use Rattle.game.specs.declared.Game.{Game}
use Rattle.game.specs.declared.start.Seat.{Seat}
use Rattle.players.specs.Presence.{marked, count_from, players_present}
use Rattle.start.specs.Refusal.{field_missing, type_above2}
use Rattle.codes.specs.Blocks.{block_count}
use Rattle.events.specs.Length.{frames_length, players_over, run_length}
use Rattle.rollback.specs.Mask.{occurs, needed}
use Rattle.ser.specs.Write.{judged}
use Rattle.ser.proofs.Laws.{stopped, went_on}
use Rattle.final_file.specs.Write.{final_file, judged_first, final_refusals, final_refusal}
use Rattle.final_file.specs.Inner.{kept_raw}
use Rattle.final_file.proofs.Outcomes.{range_refused, scratch_refused, none_refused, numbered_first, ready}
use Rattle.final_file.proofs.Steps.{total_is}
use Rattle.frames.proofs.Opens.{opens_columns, opens_slots}
use Rattle.ser.proofs.Opens.{opens_judged}

-- a game of one leader and no end
abbrev game_with : Version → ℕ → ℕ → Seat → ℕ → ℕ → Game
game_with v rows port seat double codes = record {
  frames = record {
    version = v;
    counts = record { frames = rows; items = 0; fods = 0; whispys = 0; stadiums = 0 };
    ports = record { port = port; follower = 0; leader_presence = 0; follower_presence = 0 } ∷ replicate 3 no_port;
    port_count = 1;
  };
  start = record {
    bitfield = replicate 4 0;
    is_raining_bombs = 0;
    is_teams = 0;
    item_spawn_frequency = 0;
    self_destruct_score = 0;
    stage = 0;
    timer = 0;
    item_spawn_bitfield = replicate 5 0;
    damage_ratio = 0;
    seats = seat ∷ replicate 3 no_seat;
    random_seed = 0;
    is_pal = record { given = 0; value = 0 };
    is_frozen_ps = record { given = 0; value = 0 };
    scene = record { given = 0; minor = 0; major = 0 };
    language = record { given = 0; value = 0 };
    match_info = record { given = 0; tail = 0; id = no_text; game = 0; tiebreaker = 0 };
  };
  end = record { given = 0; method = 0; initiator = 0; placed = replicate 4 0; placements = replicate 4 0 };
  double_end = double;
  codes_given = codes;
  metadata_given = 0;
  actual_size = 0;
}

abbrev old : Version
old = version 0 1 0

abbrev three : Game
three = game_with old 3 0 no_seat 0 0

-- ids, Pre, Post, offsets of items, presence, and how long the start block is
abbrev stores_with : List ℕ → List ℕ → List ℕ → List ℕ → List ℕ → ℕ → Stores
stores_with ids pres posts items presence block = stores (lent (cells ids [] pres posts [] [] [] [] []) (offsets items [] [] []) presence) (replicate block 0) [] []

abbrev lent_with : List ℕ → Stores
lent_with ids = stores_with ids (replicate 42 0) (replicate 33 0) [] [] 320

abbrev good : Stores
good = lent_with (5 ∷ 6 ∷ 5 ∷ [])

-- ids in range or not: refusals 1 to 11 do not apply
accepted : (lowest (judged three good) ≡ 0) × (lowest (judged three (lent_with (5 ∷ 1048453 ∷ 5 ∷ []))) ≡ 0)
unfolding opens_judged field_missing type_above2 block_count
accepted = (refl, refl)

raw : kept_raw three (5 ∷ 6 ∷ 5 ∷ []) good.lent.offsets [] 320 ≡ 521
unfolding opens_columns opens_slots kept_raw table_bytes entries_bytes entries_of listed payload_size end_size be summed frames_length players_over players_present count_from marked run_length occurs ranged block_count
raw = refl

places : (needed (5 ∷ 6 ∷ 5 ∷ []) ≡ 130) × (needed (5 ∷ 1048453 ∷ 5 ∷ []) ≡ 1048577)
unfolding needed place_of
places = (refl, refl)

first : (scratch : ℕ) → 3 ≤ scratch → 0 ≡ lowest (judged_first three good scratch)
first scratch h = none_refused three good scratch (sym accepted.0) 130 (sym places.0) (lit≤ tt) h

total : length (final_file three good) ≡ 537
total = total_is (ready three good 3 (sym (first 3 (lit≤ tt)))) 521 (sym raw) 1 refl

-- accepted where it just fits; 12 for a byte less of either; 13 before 12, and 1 before 13
numbers :
    (final_refusal three good 3 537 ≡ 0)
    × (final_refusal three good 3 536 ≡ 12)
    × (final_refusal three good 2 537 ≡ 12)
    × (final_refusal three (lent_with (5 ∷ 1048453 ∷ 5 ∷ [])) 0 0 ≡ 13)
unfolding final_refusals
numbers = (
  sym (went_on _ _ 0 (first 3 (lit≤ tt)) refl (numbered_first three good 3) (skip 12 _ _ _ (le-ltb 537 (length (final_file three good)) (omega (arith, total))) none)),
  sym (went_on _ _ 12 (first 3 (lit≤ tt)) refl (numbered_first three good 3) (here 12 _ _ (lt-ltb 536 (length (final_file three good)) (omega (arith, total))))),
  sym (stopped _ _ (scratch_refused three good 2 (sym accepted.0) 130 (sym places.0) (lit≤ tt) (lit< tt)) (λ z. omega arith)),
  sym (stopped _ _ (range_refused three _ 0 (sym accepted.1) 1048577 (sym places.1) (lit< tt)) (λ z. omega arith)),
)

-- ---- each number of the writer's, in its order: a row with an id out of range, no scratch and no output, so that 13 and 12 apply as well

abbrev one : Game
one = game_with old 1 0 no_seat 0 0

abbrev row : List ℕ → List ℕ → List ℕ → List ℕ → ℕ → Stores
row = stores_with (1048453 ∷ [])

abbrev whole : Stores
whole = row (replicate 14 0) (replicate 11 0) [] [] 320

-- a player of type 3
abbrev third : Seat
third = record {
  given = 1;
  character = 0;
  kind = 3;
  stocks = 0;
  costume = 0;
  team = no_seat.team;
  handicap = 0;
  bitfield = 0;
  cpu_level = no_seat.cpu_level;
  damage_start = 0;
  damage_spawn = 0;
  offense_ratio = 0;
  defense_ratio = 0;
  model_scale = 0;
  ucf = no_seat.ucf;
  name_tag_given = 0;
  name_tag = no_text;
  netplay = no_seat.netplay;
}

-- too new a version; a row too many; a Post store of ten cells; a state over two bytes; offsets of items that the version lacks; a presence byte of nobody;
-- port 4; a block of 319 bytes; the player; codes before 3.3; a doubled end that is not there
refused_first :
    (final_refusal (game_with (version 3 18 1) 1 0 no_seat 0 0) whole 0 0 ≡ 1)
    × (final_refusal (game_with old 1048577 0 no_seat 0 0) whole 0 0 ≡ 2)
    × (final_refusal one (row (replicate 14 0) (replicate 10 0) [] [] 320) 0 0 ≡ 3)
    × (final_refusal one (row (0 ∷ 65536 ∷ replicate 12 0) (replicate 11 0) [] [] 320) 0 0 ≡ 4)
    × (final_refusal one (row (replicate 14 0) (replicate 11 0) (0 ∷ []) [] 320) 0 0 ≡ 5)
    × (final_refusal one (row (replicate 14 0) (replicate 11 0) [] (1 ∷ []) 320) 0 0 ≡ 6)
    × (final_refusal (game_with old 1 4 no_seat 0 0) whole 0 0 ≡ 7)
    × (final_refusal one (row (replicate 14 0) (replicate 11 0) [] [] 319) 0 0 ≡ 8)
    × (final_refusal (game_with old 1 0 third 0 0) whole 0 0 ≡ 9)
    × (final_refusal (game_with old 1 0 no_seat 0 1) whole 0 0 ≡ 10)
    × (final_refusal (game_with old 1 0 no_seat 1 0) whole 0 0 ≡ 11)
unfolding opens_judged final_refusals judged_first field_missing type_above2 block_count
refused_first = (refl, refl, refl, refl, refl, refl, refl, refl, refl, refl, refl)
