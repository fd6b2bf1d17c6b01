-- Two computed games within the limits, so that the theorems speak of more than empty ones: before 2.2 two frames with two ports, one of them absent once, and a seat
-- with a tag; and at 3.18 a follower who comes later, teams, a CPU, items, an end and metadata.
-- Assumes nothing.
use Prim.Native.Nat.{ℕ, zero, suc, ◌+◌, ◌*◌, ◌^◌, ◌<◌}
use mathlib.Core.Path.{◌≡◌, refl, sym, ◌∙◌}
use mathlib.Core.Bool.{false}
use mathlib.Core.List.{List, [], ◌∷◌, ◌++◌}
use native.Mathlib.Omega.{arith}
use borrow.Author.Tests.{le-ltb}
use lib.Dec.{lit<}
use lib.ListN.{length, get_or, replicate}
use Rattle.wire.specs.Wire.{keep, tabulate}
use Rattle.format.specs.Mark.{yes}
use Rattle.format.specs.Refusal.{lowest}
use Rattle.format.specs.Version.{version, above, gte_of}
use Rattle.format.proofs.Refusals.{skip, none, lowest_after}
use Rattle.layout.specs.Columns.{has_family}
use Rattle.game.specs.Frames.{no_port, ports_of, port_slots, port_bytes, slots_from, slots_of}
use Rattle.game.specs.Stores.{cells, offsets, lent, Stores, stores}
use Rattle.game.specs.Zero.{no_text, no_seat}
use Rattle.game.specs.declared.Game.{Game}
use Rattle.game.specs.declared.frames.PortColumn.{PortColumn}
use Rattle.game.specs.declared.start.Text.{Text}
use Rattle.game.specs.declared.start.Optional.{Optional}
use Rattle.game.specs.declared.start.Seat.{Seat}
use Rattle.game.specs.declared.start.Start.{Start}
use Rattle.players.specs.Presence.{marked}
use Rattle.start.specs.Refusal.{field_missing, type_above2, cpu_without_level, text_too_long, text_holds_zero}
use Rattle.read_start.specs.Start.{byte_at}
use Rattle.law_start.specs.Declared.{BytesDeclared, TextDeclared, SeatDeclared, Declared}
use Rattle.law_start.proofs.Small.{no_bytes, one_more, append_bytes}
use Rattle.ser.specs.Write.{file, judged, refusal}
use Rattle.ser.proofs.Outcomes.{numbered_eleven}
use Rattle.law_saved.specs.Admitted.{Somebody, Admitted}
use Rattle.ser.proofs.Opens.{opens_judged}

-- ---- a text of two letters, and seats

abbrev letters : Text
letters = record { bytes = 0x41 ∷ 0x42 ∷ replicate 48 0; len = 2 }

abbrev given : ℕ → Optional
given value = record { given = 1; value = value }

-- somebody: 0 for a human and 1 for a CPU of level 9; a team or none; a tag
abbrev seat : ℕ → ℕ → Text → Seat
seat kind team tag = record {
  given = 1;
  character = 14;
  kind = kind;
  stocks = 4;
  costume = 1;
  team = record { given = team; color = 2; shade = 0 };
  handicap = 9;
  bitfield = 0;
  cpu_level = record { given = kind; value = 9 };
  damage_start = 0;
  damage_spawn = 0;
  offense_ratio = 0x3F800000;
  defense_ratio = 0x3F800000;
  model_scale = 0x3F800000;
  ucf = record { given = 1; dash_back = 1; shield_drop = 1 };
  name_tag_given = 1;
  name_tag = tag;
  netplay = record { given = 1; name = tag; code = tag; suid_given = 1; suid = tag };
}

abbrev start_with : ℕ → List Seat → Start
start_with teams seats = record {
  bitfield = replicate 4 0;
  is_raining_bombs = 0;
  is_teams = teams;
  item_spawn_frequency = 0xFF;
  self_destruct_score = 0xFF;
  stage = 31;
  timer = 480;
  item_spawn_bitfield = replicate 5 0xFF;
  damage_ratio = 0x3F800000;
  seats = seats;
  random_seed = 3803194226;
  is_pal = given 0;
  is_frozen_ps = given 0;
  scene = record { given = 1; minor = 2; major = 8 };
  language = given 1;
  match_info = record { given = 1; tail = 0; id = letters; game = 1; tiebreaker = 0 };
}

-- ---- their numbers are as wide as their types say

alike : (n x : ℕ) → x < 256 → BytesDeclared (replicate n x)
alike zero x h = no_bytes
alike (suc n) x h = one_more x (replicate n x) h (alike n x h)

no_text_lem : TextDeclared no_text
no_text_lem = record { long = refl; small = alike 50 0 (lit< tt) }

two_letters : TextDeclared letters
two_letters = record { long = refl; small = one_more 0x41 _ (lit< tt) (one_more 0x42 _ (lit< tt) (alike 48 0 (lit< tt))) }

somebody_declared : (kind team : ℕ) (tag : Text) → kind < 256 → TextDeclared tag → SeatDeclared (seat kind team tag)
somebody_declared kind team tag k t = record {
  character = lit< tt;
  kind = k;
  stocks = lit< tt;
  costume = lit< tt;
  color = lit< tt;
  shade = lit< tt;
  handicap = lit< tt;
  bitfield = lit< tt;
  level = lit< tt;
  start = lit< tt;
  spawn = lit< tt;
  offense = lit< tt;
  defense = lit< tt;
  scale = lit< tt;
  dash = lit< tt;
  drop = lit< tt;
  tag = t;
  name = t;
  code = t;
  suid = t;
}

nobody_declared : SeatDeclared no_seat
nobody_declared = record {
  character = lit< tt;
  kind = lit< tt;
  stocks = lit< tt;
  costume = lit< tt;
  color = lit< tt;
  shade = lit< tt;
  handicap = lit< tt;
  bitfield = lit< tt;
  level = lit< tt;
  start = lit< tt;
  spawn = lit< tt;
  offense = lit< tt;
  defense = lit< tt;
  scale = lit< tt;
  dash = lit< tt;
  drop = lit< tt;
  tag = no_text_lem;
  name = no_text_lem;
  code = no_text_lem;
  suid = no_text_lem;
}

start_declared : (teams : ℕ) (a b c d : Seat) → SeatDeclared a → SeatDeclared b → SeatDeclared c → SeatDeclared d → Declared (start_with teams (a ∷ b ∷ c ∷ d ∷ []))
start_declared teams a b c d x y z w = record {
  four = refl;
  bits = alike 4 0 (lit< tt);
  frequency = lit< tt;
  score = lit< tt;
  stage = lit< tt;
  timer = lit< tt;
  five = refl;
  items = alike 5 0xFF (lit< tt);
  ratio = lit< tt;
  seats = refl;
  each = each;
  seed = lit< tt;
  minor = lit< tt;
  major = lit< tt;
  language = lit< tt;
  id = two_letters;
  game = lit< tt;
  tiebreaker = lit< tt;
}
  where
    each : (n : ℕ) → n < 4 → SeatDeclared (get_or (a ∷ b ∷ c ∷ d ∷ []) n no_seat)
    each zero h = x
    each (suc zero) h = y
    each (suc (suc zero)) h = z
    each (suc (suc (suc zero))) h = w
    each (suc (suc (suc (suc n)))) h = absurd (omega arith)

-- a template of zeros, but for two bytes 3
abbrev template : ℕ → ℕ → ℕ → List ℕ
template a b c = replicate a 0 ++ (3 ∷ (replicate b 0 ++ (3 ∷ replicate c 0)))

template_bytes : (a b c : ℕ) → BytesDeclared (template a b c)
template_bytes a b c = append_bytes (replicate a 0) _ (alike a 0 (lit< tt)) (one_more 3 _ (lit< tt) (append_bytes (replicate b 0) _ (alike b 0 (lit< tt)) (one_more 3 _ (lit< tt) (alike c 0 (lit< tt)))))

-- ---- an output that just fits
fitting : (g : Game) (s : Stores) → lowest (judged g s) ≡ 0 → refusal g s (length (file g s)) ≡ 0
unfolding refusal
fitting g s e = lowest_after (judged g s) _ (numbered_eleven g s) e ∙ sym (skip 12 _ _ _ (le-ltb (length (file g s)) (length (file g s)) (omega arith)) none)

abbrev column : ℕ → ℕ → ℕ → ℕ → PortColumn
column port follower leader-bytes follower-bytes = record { port = port; follower = follower; leader_presence = leader-bytes; follower_presence = follower-bytes }

-- ---- 1.3.0, where Pre has 15 columns and Post 12: ports 0 and 1, and the player of port 1 is not in the second frame

abbrev early : Game
early = record {
  frames = record {
    version = version 1 3 0;
    counts = record { frames = 2; items = 0; fods = 0; whispys = 0; stadiums = 0 };
    ports = column 0 0 0 0 ∷ column 1 0 1 0 ∷ no_port ∷ no_port ∷ [];
    port_count = 2;
  };
  start = start_with 0 (seat 0 0 letters ∷ seat 0 0 no_text ∷ no_seat ∷ no_seat ∷ []);
  end = record { given = 1; method = 2; initiator = 0xFF; placed = replicate 4 0; placements = replicate 4 0 };
  double_end = 0;
  codes_given = 0;
  metadata_given = 0;
  actual_size = 0;
}

abbrev early_stores : Stores
early_stores =
    stores (lent (cells (4294967173 ∷ 4294967174 ∷ []) [] (replicate 60 1) (replicate 48 1) [] [] [] [] []) (offsets [] [] [] []) (1 ∷ [])) (template 173 35 206) [] []

-- ---- 3.18.0: port 0 with a follower who comes in the second frame, and a CPU at port 2, in teams; one item and then two

abbrev late : Game
late = record {
  frames = record {
    version = version 3 18 0;
    counts = record { frames = 2; items = 3; fods = 0; whispys = 0; stadiums = 0 };
    ports = column 0 1 0 1 ∷ column 2 0 0 0 ∷ no_port ∷ no_port ∷ [];
    port_count = 2;
  };
  start = start_with 1 (seat 0 1 letters ∷ no_seat ∷ seat 1 1 no_text ∷ no_seat ∷ []);
  end = record { given = 1; method = 2; initiator = 0; placed = 1 ∷ 0 ∷ 1 ∷ 0 ∷ []; placements = 0 ∷ 0 ∷ 1 ∷ 0 ∷ [] };
  double_end = 1;
  codes_given = 0;
  metadata_given = 1;
  actual_size = 0;
}

-- the metadata is a map of one entry, whose key is a and whose number is 7
abbrev late_stores : Stores
late_stores =
    stores
    (lent
    (cells (4294967173 ∷ 4294967174 ∷ []) (replicate 4 1) (replicate 114 1) (replicate 192 1) (replicate 2 1) (replicate 48 1) [] [] [])
    (offsets (0 ∷ 1 ∷ 3 ∷ []) (replicate 3 0) (replicate 3 0) (replicate 3 0)) (2 ∷ []))
    (template 137 71 550) [] (0x55 ∷ 1 ∷ 0x61 ∷ 0x6c ∷ 0 ∷ 0 ∷ 0 ∷ 7 ∷ [])

accepted : (lowest (judged early early_stores) ≡ 0) × (lowest (judged late late_stores) ≡ 0)
unfolding opens_judged field_missing type_above2 cpu_without_level text_too_long text_holds_zero
accepted = (refl, refl)

ids_fit : (i : ℕ) → get_or (4294967173 ∷ 4294967174 ∷ []) i 0 < 2 ^ 32
ids_fit zero = lit< tt
ids_fit (suc zero) = lit< tt
ids_fit (suc (suc i)) = lit< tt

-- the player of port 0 has no presence bytes, and is in every frame
leader_there : (i : ℕ) → Somebody early.frames early_stores.lent i
unfolding marked slots_of slots_from ports_of port_slots port_bytes tabulate keep
leader_there i = record { slot = 0; there = lit< tt; present = refl }

pub admitted_early : Admitted early early_stores
unfolding has_family gte_of above
admitted_early = record {
  room = length (file early early_stores);
  accepted = fitting early early_stores accepted.0;
  major = lit< tt;
  minor = lit< tt;
  patch = lit< tt;
  ids = ids_fit;
  start = start_declared 0 _ _ _ _ (somebody_declared 0 0 letters (lit< tt) two_letters) (somebody_declared 0 0 no_text (lit< tt) no_text_lem) nobody_declared nobody_declared;
  template = template_bytes 173 35 206;
  order = order;
  empty = empty;
  changing = λ _. changing;
  somebody = λ _ i _. leader_there i;
}
  where
    order : (j k : ℕ) → j < k → k < 2 → (get_or early.frames.ports j no_port).port < (get_or early.frames.ports k no_port).port
    order zero (suc zero) l h = lit< tt
    order zero zero l h = absurd (omega arith)
    order (suc j) zero l h = absurd (omega arith)
    order (suc j) (suc zero) l h = absurd (omega arith)
    order j (suc (suc k)) l h = absurd (omega arith)

    empty : (n : ℕ) → n < 4 → yes (get_or early.start.seats n no_seat).given ≡ false → byte_at early_stores.template (101 + 36 * n) ≡ 3
    empty zero h e = let z : ◌≡◌ {A = ℕ} 0 1 = cc in absurd (omega arith)
    empty (suc zero) h e = let z : ◌≡◌ {A = ℕ} 0 1 = cc in absurd (omega arith)
    empty (suc (suc zero)) h e = refl
    empty (suc (suc (suc zero))) h e = refl
    empty (suc (suc (suc (suc n)))) h e = absurd (omega arith)

    changing : (i : ℕ) → i + 1 < 2 → get_or early_stores.lent.cells.ids i 0 ≡ get_or early_stores.lent.cells.ids (i + 1) 0 → ⊥
    changing zero h e = absurd (omega (arith, e))
    changing (suc i) h e = absurd (omega arith)

pub admitted_late : Admitted late late_stores
unfolding has_family gte_of above
admitted_late = record {
  room = length (file late late_stores);
  accepted = fitting late late_stores accepted.1;
  major = lit< tt;
  minor = lit< tt;
  patch = lit< tt;
  ids = ids_fit;
  start = start_declared 1 _ _ _ _ (somebody_declared 0 1 letters (lit< tt) two_letters) nobody_declared (somebody_declared 1 1 no_text (lit< tt) no_text_lem) nobody_declared;
  template = template_bytes 137 71 550;
  order = order;
  empty = empty;
  changing = λ e. let z : ◌≡◌ {A = ℕ} 0 1 = cc in absurd (omega arith);
  somebody = λ e. let z : ◌≡◌ {A = ℕ} 0 1 = cc in absurd (omega arith);
}
  where
    order : (j k : ℕ) → j < k → k < 2 → (get_or late.frames.ports j no_port).port < (get_or late.frames.ports k no_port).port
    order zero (suc zero) l h = lit< tt
    order zero zero l h = absurd (omega arith)
    order (suc j) zero l h = absurd (omega arith)
    order (suc j) (suc zero) l h = absurd (omega arith)
    order j (suc (suc k)) l h = absurd (omega arith)

    empty : (n : ℕ) → n < 4 → yes (get_or late.start.seats n no_seat).given ≡ false → byte_at late_stores.template (101 + 36 * n) ≡ 3
    empty zero h e = let z : ◌≡◌ {A = ℕ} 0 1 = cc in absurd (omega arith)
    empty (suc zero) h e = refl
    empty (suc (suc zero)) h e = let z : ◌≡◌ {A = ℕ} 0 1 = cc in absurd (omega arith)
    empty (suc (suc (suc zero))) h e = refl
    empty (suc (suc (suc (suc n)))) h e = absurd (omega arith)
