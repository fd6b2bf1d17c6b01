-- Cases 6 to 9 and 11: version 3.18.0, one frame with one leader at port 0, an end, and codes or none. What is read of such a file, whatever its codes;
-- a case says which they are.
-- Assumes nothing.
use Prim.Native.Nat.{ℕ, zero, suc, ◌+◌, ◌≤◌, ◌<◌}
use mathlib.Core.Path.{◌≡◌, refl, sym, ap, ap₂, ◌∙◌}
use mathlib.Core.Bool.{true, false}
use mathlib.Core.List.{List, [], ◌∷◌}
use native.Mathlib.Omega.{arith}
use borrow.Author.Tests.{le-ltb}
use lib.Dec.{lit<, lit≤}
use lib.ListN.{length, replicate}
use Rattle.wire.specs.Wire.{be, more, part, splice, ranged, keep, tabulate}
use Rattle.format.specs.Mark.{yes}
use Rattle.format.specs.Refusal.{one_of}
use Rattle.format.specs.Version.{version, above, accepted_of, gte_of}
use Rattle.format.specs.declared.version.Version.{Version}
use Rattle.layout.specs.Columns.{has_family, columns_of, chosen, sum}
use Rattle.layout.specs.Payloads.{end_size}
use Rattle.record.specs.Record.{cells_bytes}
use Rattle.game.specs.Frames.{no_port, ports_of, port_slots, port_bytes, slots_from, slots_of}
use Rattle.game.specs.Stores.{Lent, lent, Stores, stores}
use Rattle.game.specs.declared.Game.{Game}
use Rattle.game.specs.declared.frames.Frames.{Frames}
use Rattle.players.specs.Presence.{marked}
use Rattle.frames.specs.Judge.{too_many}
use Rattle.patch.specs.Field.{zero_filled, read_text}
use Rattle.patch.specs.Patch.{patched}
use Rattle.start.specs.Block.{game_fields, player_fields, text_fields, port_fields, seats_fields, mode_fields, match_fields, fields, start_block}
use Rattle.start.specs.Length.{reached, length_of}
use Rattle.read_start.specs.Start.{seat_in, start_in}
use Rattle.ending.specs.End.{placement_of, placements_of, initiator_wrong}
use Rattle.ending.specs.Tail.{tail_of}
use Rattle.grammar.specs.Productions.{Player, Frame, Block, Replay, events_of, used_in, codes_bytes}
use Rattle.grammar.specs.WellFormed.{Each, ascending, may_come, InOrder, GoodPlayer, GoodFrame, GoodCodes, WellFormed}
use Rattle.grammar.specs.Readable.{Alike, seat_type, Readable}
use Rattle.columns.specs.Columns.{holds, ever_in, players_at, port_columns, rows_there, frames_read, cell_columns, slot_row, slots_cells, totals, offsets_read, bits_from, presence_bytes, slots_presence, lent_read}
use Rattle.read_outline.specs.Listed.{listed_right}
use Rattle.read_outline.specs.End.{mark_by, value_by, initiator_in, placed_in, placements_in, end_in}
use Rattle.head.specs.Table.{first_place}
use Rattle.read_judge.specs.Found.{opens_wrong, version_said, version_of, Found, too_big}
use Rattle.newer_judge.specs.Opening.{opening_refusal}
use Rattle.measure.specs.declared.lengths.Lengths.{Lengths}
use Rattle.measure.specs.Game.{Kept, kept, kept_read, lengths_of, bare, tail_kind, end_read, game_read}
use Rattle.measure.specs.Read.{unopened, kept_short, kept_over, MeasureOutcome, ReadOutcome}
use Rattle.measure.specs.declared.Places.{Places}
use Rattle.measure.specs.declared.Measured.{Measured}
use Rattle.measure.specs.declared.Opened.{Opened}
use Rattle.ser.specs.Write.{entries, events, file}
use Rattle.ser.proofs.Outcomes.{Passed}
use Rattle.law_tree.specs.Tree.{rows_in, players_in, shows, frames_of, blocks_of, ends_of, replay_of}
use Rattle.law_tree.proofs.Same.{same}
use Rattle.law_saved.specs.Again.{fronts, stores_read}
use Rattle.law_saved.proofs.Fronts.{fronts_read}
use Rattle.case_table.specs.Games.{plain_start, plain_end, plain_frames, game_with, game_of, one_frame}
use Rattle.case_files.proofs.Back.{start_back}
use Rattle.case_files.proofs.Held.{Holds, span_in, mark_of, places_of, measured_of, opened_of}
use Rattle.case_files.proofs.Held as held

abbrev pub newest : Version
newest = version 3 18 0

-- ---- the tree

-- the template's zeros behind the version
abbrev pub block : List ℕ
block = 3 ∷ 18 ∷ 0 ∷ replicate 757 0

abbrev pub leader : Player
leader = record { port = 0; follower = 0; pre = replicate 60 0; post = replicate 78 0 }

abbrev pub frame : Frame
frame = record {
  id = 0;
  start = replicate 8 0;
  players = leader ∷ [];
  fods = [];
  whispys = [];
  stadiums = [];
  items = [];
  end = replicate 4 0;
}

-- method 0, by nobody, and nobody is placed
abbrev pub ending : List ℕ
ending = 0 ∷ replicate 5 0xff

abbrev pub tree : List Block → Replay
tree codes = record { block = block; codes = codes; frames = frame ∷ []; ends = ending ∷ [] }

-- ---- what comes back

-- a leader at port 0, present by one byte
abbrev pub frames_back : Frames
frames_back = record {
  version = newest;
  counts = record { frames = 1; items = 0; fods = 0; whispys = 0; stadiums = 0 };
  ports = record { port = 0; follower = 0; leader_presence = 1; follower_presence = 0 } ∷ replicate 3 no_port;
  port_count = 1;
}

-- the stores that were lent, but for presence, which was empty
abbrev pub lent_back : Lent
lent_back = lent (one_frame []).lent.cells (one_frame []).lent.offsets (1 ∷ [])

-- with codes or none, of this actual size; the end is the one that was given
abbrev pub game_back : ℕ → ℕ → Game
game_back given actual = game_with frames_back (start_back 1) 1 given actual

-- with so many bytes of codes
abbrev pub lengths_back : ℕ → Lengths
lengths_back codes = record {
  ids = 1;
  starts = 2;
  pres = 19;
  posts = 32;
  ends = 1;
  items = 0;
  fods = 0;
  whispys = 0;
  stadiums = 0;
  item_offsets = 2;
  fod_offsets = 2;
  whispy_offsets = 2;
  stadium_offsets = 2;
  presence = 1;
  codes = codes;
}

abbrev pub places_back : ℕ → Places
places_back at = record { block_at = at; block_len = 760; tail = 0; metadata_at = 0; metadata_len = 0 }

abbrev pub measured_back : ℕ → ℕ → ℕ → ℕ → Measured
measured_back given actual codes at = record {
  refused = 0;
  partly = 0;
  offset = 0;
  frames = frames_back;
  codes_given = given;
  actual_size = actual;
  lengths = lengths_back codes;
  places = places_back at;
}

abbrev pub opened_back : ℕ → ℕ → ℕ → Opened
opened_back given actual at = record { refused = 0; partly = 0; offset = 0; game = game_back given actual; places = places_back at }

-- ---- the tree can be read back, if its codes are good

good_leader : GoodPlayer newest leader
unfolding gte_of above columns_of chosen sum
good_leader = record { port = lit≤ tt; follower = lit≤ tt; pre = refl; post = refl }

good_frame : GoodFrame newest ascending frame
unfolding Each InOrder may_come has_family gte_of above columns_of chosen sum
good_frame = record {
  id = lit< tt;
  start = refl;
  players = (good_leader, tt);
  slots = (refl, tt);
  somebody = λ e. lit< tt;
  fods = tt;
  whispys = tt;
  stadiums = tt;
  items = tt;
  end = refl;
}

well : (codes : List Block) → GoodCodes newest codes → WellFormed newest ascending (tree codes)
unfolding Each length_of reached end_size gte_of above
well codes good = record {
  version = refl;
  block = lit≤ tt;
  short = lit< tt;
  codes = good;
  frames = (good_frame, tt);
  few = lit≤ tt;
  ends = (refl, tt);
}

seats : (n : ℕ) → n < 4 → seat_type block n ≤ 3
seats zero h = lit≤ tt
seats (suc zero) h = lit≤ tt
seats (suc (suc zero)) h = lit≤ tt
seats (suc (suc (suc zero))) h = lit≤ tt
seats (suc (suc (suc (suc n)))) h = absurd (omega arith)

readable : (codes : List Block) → GoodCodes newest codes → Readable newest (tree codes)
unfolding Alike Each initiator_wrong has_family gte_of above
readable codes good = record {
  well = well codes good;
  changing = λ e. let z : ◌≡◌ {A = ℕ} 0 1 = cc in absurd (omega arith);
  seats = seats;
  alike = tt;
  initiators = λ e. (refl, tt);
}

-- ---- computed: frames, stores, start and end

frames_back_lem : frames_read newest (frame ∷ []) ≡ frames_back
unfolding frames_read rows_there port_columns ranged ever_in holds keep has_family gte_of above
frames_back_lem = refl

lent_back_lem : lent_read newest (frame ∷ []) ≡ lent_back
unfolding frames_read rows_there port_columns ranged ever_in holds keep has_family gte_of above lent_read players_at cell_columns columns_of chosen more slot_row slots_cells slots_of slots_from ports_of port_slots port_bytes tabulate offsets_read totals slots_presence presence_bytes bits_from
lent_back_lem = refl

pub start_back_lem : start_in newest block ≡ start_back 1
unfolding start_in seat_in ranged part more read_text gte_of above
start_back_lem = refl

end_back : end_read newest (ending ∷ []) ≡ plain_end 1
unfolding end_in initiator_in placed_in placements_in mark_by value_by gte_of above
end_back = refl

-- ---- computed: the game's tree

block_is : start_block newest plain_start (replicate 760 0) ≡ block
unfolding be splice start_block fields game_fields seats_fields mode_fields match_fields patched keep gte_of above
block_is = refl

frames_are : frames_of (plain_frames newest 1 1) (one_frame []).lent ≡ frame ∷ []
unfolding frames_of shows players_in rows_in be ranged keep tabulate has_family gte_of above columns_of chosen cells_bytes slots_of slots_from ports_of port_slots port_bytes marked
frames_are = refl

ends_are : ends_of newest (plain_end 1) 0 ≡ ending ∷ []
unfolding ends_of keep placements_of placement_of ranged gte_of above
ends_are = refl

-- what comes back has the same block, stored over it again: the seats are given, and are zeros; and the same frames and end
block_again : start_block newest (start_back 1) block ≡ block
unfolding be splice zero_filled start_block fields game_fields player_fields text_fields port_fields seats_fields mode_fields match_fields patched keep gte_of above
block_again = refl

frames_again : frames_of frames_back lent_back ≡ frame ∷ []
unfolding frames_of shows players_in rows_in be ranged keep tabulate has_family gte_of above columns_of chosen cells_bytes slots_of slots_from ports_of port_slots port_bytes marked
frames_again = refl

-- stores of just these lengths are long enough
pub just_enough : (codes : List ℕ) → kept_short (kept lent_back codes) (kept lent_back codes) ≡ false
unfolding kept_short one_of
just_enough codes = simp (le-ltb (length codes) (length codes) (omega arith))

-- ---- a file: codes are given or not, of this actual size and so many bytes; its start block stands at this place

abbrev pub coded_game : ℕ → ℕ → Game
coded_game given actual = game_of newest 1 1 1 given actual

abbrev pub span_for : ℕ → ℕ → List ℕ → ℕ
span_for given actual codes = span_in (coded_game given actual) (one_frame codes)

-- what a case has to say: the game is not refused, these are the blocks of its codes, and the table is so long and lists them so
pub record Coded (given actual bytes at : ℕ) (codes : List ℕ) (blocks : List Block) : Type 0 where
  pub passed : Passed (coded_game given actual) (one_frame codes)
  pub cut : blocks_of (yes given) codes actual ≡ blocks
  pub good : GoodCodes newest blocks
  pub joined : codes_bytes blocks ≡ codes
  pub used : used_in blocks ≡ actual
  pub long : length codes ≡ bytes
  pub few : bytes ≤ 16777216
  pub right : listed_right newest (span_for given actual codes) (length blocks) actual ≡ true
  pub mark : mark_of newest (span_for given actual codes) ≡ given
  pub first : first_place (entries (coded_game given actual) (one_frame codes)) + 1 ≡ at

module _ {given actual bytes at : ℕ} {codes : List ℕ} {blocks : List Block} (c : Coded given actual bytes at codes blocks) where
  abbrev g : Game
  g = coded_game given actual

  abbrev s : Stores
  s = one_frame codes

  abbrev f : List ℕ
  f = file g s

  tree_is : replay_of g s ≡ tree blocks
  unfolding replay_of
  tree_is = λ i. record { block = block_is i; codes = c.cut i; frames = frames_are i; ends = ends_are i }

  events_are : events g s ≡ events_of newest (tree blocks)
  events_are = same g s ∙ ap (events_of newest) tree_is

  opens : opens_wrong (events_of newest (tree blocks)) ≡ false
  unfolding opens_wrong events_of
  opens = refl

  said : version_said (events_of newest (tree blocks)) ≡ newest
  unfolding version_said events_of
  said = refl

  few_bytes : too_many frames_back bytes 0 ≡ false
  unfolding too_many one_of
  few_bytes = rw (le-ltb 16777216 bytes c.few)

  small : too_big newest (tree blocks) ≡ false
  small = ap₂ (λ (x : Frames) (n : ℕ). too_many x n 0) frames_back_lem (ap length c.joined ∙ c.long) ∙ few_bytes

  plain : tail_kind (tail_of false []) ≡ 0
  unfolding tail_kind tail_of keep bare
  plain = refl

  pub tree_held : Holds g s (tree blocks)
  tree_held = record {
    same = events_are;
    opens = opens;
    said = said;
    readable = readable blocks c.good;
    listed = ap (listed_right newest (span_in g s) (length blocks)) c.used ∙ c.right;
    small = small;
    plain = plain;
  }

  -- it is not refused, and holds the tree of these blocks
  pub not_refused : opening_refusal f ≡ 0
  not_refused = held.not_refused c.passed tree_held

  abbrev pub found : Found f
  found = held.found c.passed tree_held

  pub small_enough : too_big (version_of f) (tree blocks) ≡ false
  small_enough = held.small_enough c.passed tree_held

  -- ---- the answers

  -- the stores that are needed
  needed_is : kept_read newest (tree blocks) ≡ kept lent_back codes
  needed_is = ap₂ kept lent_back_lem c.joined

  lengths_are : lengths_of (kept_read newest (tree blocks)) ≡ lengths_back bytes
  lengths_are = ap lengths_of needed_is ∙ ap lengths_back c.long

  places_are : places_of (entries g s) (tree blocks) ≡ places_back at
  places_are = ap places_back c.first

  measured_is : measured_of newest (mark_of newest (span_in g s)) (places_of (entries g s) (tree blocks)) (tree blocks) ≡ measured_back given actual bytes at
  unfolding accepted_of above
  measured_is = λ i. record {
    refused = 0;
    partly = 0;
    offset = 0;
    frames = frames_back_lem i;
    codes_given = c.mark i;
    actual_size = c.used i;
    lengths = lengths_are i;
    places = places_are i;
  }

  game_is : held.game_of newest (mark_of newest (span_in g s)) 0 (tree blocks) ≡ game_back given actual
  game_is = λ i. record {
    frames = frames_back_lem i;
    start = start_back_lem i;
    end = end_back i;
    double_end = 0;
    codes_given = c.mark i;
    metadata_given = 0;
    actual_size = c.used i;
  }

  opened_is : opened_of newest (mark_of newest (span_in g s)) (places_of (entries g s) (tree blocks)) (tree blocks) ≡ opened_back given actual at
  unfolding accepted_of above
  opened_is = λ i. record { refused = 0; partly = 0; offset = 0; game = game_is i; places = places_are i }

  -- `measure` answers this, and nothing else
  pub measured : MeasureOutcome f (measured_back given actual bytes at)
  measured = held.measured c.passed tree_held measured_is

  pub only_measured : {m : Measured} → MeasureOutcome f m → m ≡ measured_back given actual bytes at
  only_measured = held.only_measured c.passed tree_held measured_is

  -- `read` too, and fills stores that are long enough with what was lent to `write`
  pub opened : (stores : Kept) → kept_short stores (kept lent_back codes) ≡ false → ReadOutcome f stores (opened_back given actual at) (kept_over stores (kept lent_back codes))
  opened = held.opened c.passed tree_held opened_is needed_is

  pub only_opened : (stores : Kept) → kept_short stores (kept lent_back codes) ≡ false → {x : Opened} {after : Kept} → ReadOutcome f stores x after
      → (x ≡ opened_back given actual at) × (after ≡ kept_over stores (kept lent_back codes))
  only_opened = held.only_opened c.passed tree_held opened_is needed_is

  -- it is refused by 12 where one is shorter
  pub refused_short : (stores : Kept) → kept_short stores (kept lent_back codes) ≡ true → ReadOutcome f stores (unopened 12 0) stores
  refused_short = held.refused_short c.passed tree_held opened_is needed_is

  -- the fronts of the stores, as long as `measure` says, are then those that were lent
  pub filled : (stores : Kept) → kept_short stores (kept lent_back codes) ≡ false → fronts (lengths_back bytes) (kept_over stores (kept lent_back codes)) ≡ kept lent_back codes
  filled stores e =
      ap (λ (n : ℕ). fronts (lengths_back n) (kept_over stores (kept lent_back codes))) (sym c.long) ∙ fronts_read stores (kept lent_back codes) e

  -- ---- and saved again

  tree_again : replay_of (game_back given actual) (stores lent_back block codes []) ≡ tree blocks
  unfolding replay_of
  tree_again = λ i. record { block = block_again i; codes = c.cut i; frames = frames_again i; ends = ends_are i }

  -- what is read, written again, is the same file
  pub saved_again : file (game_read f (tree blocks)) (stores_read f (tree blocks)) ≡ f
  saved_again = held.saved_again c.passed tree_held game_is needed_is refl tree_again refl refl
